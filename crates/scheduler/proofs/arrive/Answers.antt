-- Refused or admitted, by the law of each, from what the callees give and leave.
use Rattle.scheduler.proofs.Public.{arrive-refuses, arrive-admits, arrive_may}
use Rattle.scheduler.proofs.Premise.{stands, small}
use Rattle.scheduler.proofs.arrive.Goals as goal

pub gone-rank-requires : goal.gone-rank-requires
gone-rank-requires c = (small _ _ (stands _ _ c.requires)).counted

pub judge_arrival-judged-requires : goal.judge_arrival-judged-requires
judge_arrival-judged-requires c = (small _ _ (stands _ _ c.requires)).counted

pub returns-in-Err : goal.returns-in-Err
returns-in-Err c =
    arrive-refuses c.args.scheduler _ c.args.packet c.requires _
    (record {
      rank = c.gone-rank.result;
      head = c.packet_at-head.result;
      gone = c.gone-rank.ensures;
      there = c.packet_at-head.ensures;
      judged = c.judge_arrival-judged.ensures;
    })
    _ c.in-Err.is

pub admit-requires : goal.admit-requires
admit-requires c =
    arrive_may c.args.scheduler _ c.args.packet c.requires _
    (record {
      rank = c.gone-rank.result;
      head = c.packet_at-head.result;
      gone = c.gone-rank.ensures;
      there = c.packet_at-head.ensures;
      judged = c.judge_arrival-judged.ensures;
    })
    c.in_default.is

pub returns : goal.returns
returns c =
    arrive-admits c.args.scheduler _ c.args.packet c.requires _
    (record {
      rank = c.gone-rank.result;
      head = c.packet_at-head.result;
      gone = c.gone-rank.ensures;
      there = c.packet_at-head.ensures;
      judged = c.judge_arrival-judged.ensures;
    })
    c.admit.result _ c.in_default.is c.admit.ensures.value c.admit.ensures.left
