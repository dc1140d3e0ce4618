-- Refused, empty, early or due, by the law of each, from what the callees give.
use Rattle.std.proofs.Common.{rules, sym, ◌∙◌}
use Rattle.scheduler.proofs.Public.{advance-refuses, advance_empty, advance-early, advance_takes, advance_may}
use Rattle.scheduler.proofs.Premise.{stands, small}
use Rattle.scheduler.proofs.advance.Goals as goal

pub returns-in-Err : goal.returns-in-Err
returns-in-Err c = advance-refuses c.args.scheduler _ c.args.at c.requires _ c.judge_advance.ensures _ c.in-Err.is

pub waits-requires : goal.waits-requires
waits-requires c = (small _ _ (stands _ _ c.requires)).counted

pub returns-then-not-waits : goal.returns-then-not-waits
returns-then-not-waits c =
    advance_empty c.args.scheduler _ c.args.at c.requires _ c.judge_advance.ensures c.in_default.is
    (sym c.waits.ensures ∙ c.if-not-waits.true) _ c.idle.ensures

pub gone-rank-requires : goal.gone-rank-requires
gone-rank-requires c = (small _ _ (stands _ _ c.requires)).counted

pub returns-then-lt : goal.returns-then-lt
returns-then-lt c =
    advance-early c.args.scheduler _ c.args.at c.requires _ c.judge_advance.ensures c.in_default.is
    (sym c.waits.ensures ∙ c.if-not-waits.false) c.packet_at-head.result c.due-due.result
    (record { rank = c.gone-rank.result; gone = c.gone-rank.ensures; there = c.packet_at-head.ensures; date = c.due-due.ensures })
    (search rules) _ c.idle-then-lt.ensures

pub decide-requires : goal.decide-requires
decide-requires c =
    advance_may c.args.scheduler _ c.args.at c.requires _ c.judge_advance.ensures c.in_default.is
    (sym c.waits.ensures ∙ c.if-not-waits.false) c.packet_at-head.result c.due-due.result
    (record { rank = c.gone-rank.result; gone = c.gone-rank.ensures; there = c.packet_at-head.ensures; date = c.due-due.ensures })
    (search rules)

pub returns : goal.returns
returns c =
    advance_takes c.args.scheduler _ c.args.at c.requires _ c.judge_advance.ensures c.in_default.is
    (sym c.waits.ensures ∙ c.if-not-waits.false) c.packet_at-head.result c.due-due.result
    (record { rank = c.gone-rank.result; gone = c.gone-rank.ensures; there = c.packet_at-head.ensures; date = c.due-due.ensures })
    (search rules) _ c.decide.ensures
