-- Every list of calls by a C host: each call is the rules' step, and what it leaves stands for the rules' next line. Assumes nothing.
use mathlib.Core.Path.{◌≡◌, refl, ap, ◌∙◌}
use mathlib.Core.List.{List, [], ◌∷◌, map}
use Rattle.std.specs.Prelude.{Option, Some, None, Result, Ok, Err}
use Rattle.refusals.specs.declared.Refusal.{Refusal}
use Rattle.rules.specs.Terms.{Terms}
use Rattle.rules.specs.Line.{Line, fresh}
use Rattle.rules.specs.Step.{step, after, answers}
use Rattle.rules.specs.Printed.{numbers_of, tally_line}
use Rattle.rules.proofs.Opened.{opens-sound}
use Rattle.room.specs.declared.Room.{Room}
use Rattle.scheduler_state.specs.declared.Scheduler.{Scheduler}
use Rattle.scheduler_answers.specs.declared.Admitted.{Admitted}
use Rattle.scheduler_answers.specs.declared.Start.{Start}
use Rattle.scheduler_answers.specs.Values.{admission_numbers, advance_numbers, tally_values}
use Rattle.scheduler.specs.Machine.{terms_by, line_by}
use Rattle.scheduler.specs.Steps.{step_by}
use Rattle.scheduler.proofs.Follows.{all-faithful}
use Rattle.bilgethrum_values.specs.Host.{settings_from, host_arrival, host_decision}
use Rattle.bilgethrum.specs.Promises.{OnLine, arrived, advanced, tallied}
use Rattle.bilgethrum.specs.Lists.{
  HostCall,
  arrives,
  advances,
  host_call,
  arrival_read,
  decision_read,
  answer_read,
  words_then,
  answers_read,
  words_after,
  tallies_read,
  in_force,
  AllHostFaithful,
}
use Rattle.bilgethrum.proofs.Arrives.{arrival_steps_on}
use Rattle.bilgethrum.proofs.Advances.{advance_steps_on}
use Rattle.bilgethrum.proofs.Opens.{opened-kept}

-- The five numbers of an answer are those that the host reads.
admission-read : (a : Result Admitted Refusal) → arrival_read (host_arrival a) ≡ admission_numbers a
admission-read (Ok (Admitted.Unmarked n e)) = refl
admission-read (Ok (Admitted.Marked n)) = refl
admission-read (Err r) = refl

decision-read : (a : Result (Option Start) Refusal) → decision_read (host_decision a) ≡ advance_numbers a
decision-read (Ok (Some x)) = refl
decision-read (Ok None) = refl
decision-read (Err r) = refl

-- One call.
record Stepped (b : Room) (o : OnLine b) (c : HostCall) : Type 0 where
  read : answer_read b c ≡ numbers_of (step_by o (host_call c)).answer
  next : OnLine (words_then b c)
  terms : terms_by next ≡ terms_by o
  stands : line_by next ≡ (step_by o (host_call c)).line

stepped : (b : Room) (o : OnLine b) (c : HostCall) → Stepped b o c
stepped b o (arrives p) =
    let x = arrival_steps_on b p o in
    record { read = admission-read (arrived b p).answer ∙ x.numbers; next = x.next; terms = x.terms; stands = x.stands }
stepped b o (advances at) =
    let x = advance_steps_on b at o in
    record { read = decision-read (advanced b at).answer ∙ x.numbers; next = x.next; terms = x.terms; stands = x.stands }

-- The calls cs from words that stand for the line l.
record Follows (σ : Terms) (l : Line) (b : Room) (cs : List HostCall) : Type 0 where
  read : answers_read b cs ≡ map numbers_of (answers σ l (map host_call cs))
  ends : OnLine (words_after b cs)
  terms : terms_by ends ≡ σ
  stands : line_by ends ≡ after σ l (map host_call cs)

follows : (cs : List HostCall) (σ : Terms) (l : Line) (b : Room) (o : OnLine b) → terms_by o ≡ σ → line_by o ≡ l → Follows σ l b cs
unfolding answers_read words_after answers after
follows [] σ l b o e f = record { read = refl; ends = o; terms = e; stands = f }
follows (c ∷ cs) σ l b o e f =
    let x = stepped b o c in
    let same : step_by o (host_call c) ≡ step σ l (host_call c) = λ i. step (e i) (f i) (host_call c) in
    let more =
    follows cs σ (step σ l (host_call c)).line (words_then b c) x.next (x.terms ∙ e)
    (x.stands ∙ (λ i. (same i).line)) in
    record {
      read = rw (more.read, x.read, same);
      ends = more.ends;
      terms = more.terms;
      stands = more.stands;
    }

-- The tallies of words that stand for a line.
tallies_of : (b : Room) (o : OnLine b) → tallies_read (tallied b) ≡ tally_line (line_by o).tallies
tallies_of b o =
    ap (λ (s : Scheduler). tally_values s.tallies) o.scheduler
    ∙ (all-faithful o.settings o.lent o.sized o.calls).tallies

pub all_host_faithful : AllHostFaithful
all_host_faithful asked before z cs =
    let x = opened-kept asked before in
    let f = follows cs (in_force asked) fresh _ (x.kept z) (x.terms z) (x.stands z ∙ (opens-sound (settings_from asked)).2) in
    record { given = f.read; tallies = tallies_of _ f.ends ∙ ap (λ (l : Line). tally_line l.tallies) f.stands }
