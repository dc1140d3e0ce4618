-- What the lines of the code's answers tell by themselves. Assumes nothing.
use Rattle.std.specs.Prelude.{Bool, ◌||◌, List, [], ◌∷◌, ℕ, ◌+◌, eqb, get_or}
use Rattle.rules.specs.Step.{Call, arrive, advance}
use Rattle.rules.specs.History.{Arrival}
use Rattle.scheduler_state.specs.Pick.{pick}

-- The line S n t e k.
pub record Begun : Type 0 where
  pub number : ℕ
  pub at : ℕ
  pub extra : ℕ
  pub dropped : ℕ

-- Its letter, and its four numbers.
abbrev pub is_start : List ℕ → Bool
is_start l = eqb (get_or l 0 0) 83

abbrev pub begun_by : List ℕ → Begun
begun_by l = record { number = get_or l 1 0; at = get_or l 2 0; extra = get_or l 3 0; dropped = get_or l 4 0 }

-- The starts, in order.
abbrev pub begun_in : List (List ℕ) → List Begun
begun_in [] = []
begun_in (l ∷ ls) = pick (is_start l) (begun_by l ∷ begun_in ls) (begun_in ls)

-- The lines A n e and M n.
abbrev pub is_admission : List ℕ → Bool
is_admission l = eqb (get_or l 0 0) 65 || eqb (get_or l 0 0) 77

-- How many packets the lines say were admitted, and how many are gone: each line S takes the packet that starts and those it drops.
abbrev pub admissions_in : List (List ℕ) → ℕ
admissions_in [] = 0
admissions_in (l ∷ ls) = pick (is_admission l) (1 + admissions_in ls) (admissions_in ls)

abbrev pub gone_in : List (List ℕ) → ℕ
gone_in [] = 0
gone_in (l ∷ ls) = pick (is_start l) (1 + (begun_by l).dropped + gone_in ls) (gone_in ls)

-- The admitted packets: each arrival that was answered so, with the call's own marking, length, place and instant, numbered from n in order.
abbrev pub admitted_in : (n : ℕ) → List Call → List (List ℕ) → List Arrival
admitted_in n [] ls = []
admitted_in n (c ∷ cs) [] = []
admitted_in n (arrive μ len place t ∷ cs) (l ∷ ls) =
    pick (is_admission l) (record { marking = μ; number = n; len = len; place = place; arrival = t } ∷ admitted_in (1 + n) cs ls) (admitted_in n cs ls)
admitted_in n (advance t ∷ cs) (l ∷ ls) = admitted_in n cs ls
