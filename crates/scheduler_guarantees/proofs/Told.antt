-- The lines of the rules' answers tell what the answers tell. Assumes nothing.
use mathlib.Core.Path.{◌≡◌, refl, ap}
use mathlib.Core.List.{List, [], ◌∷◌, map, Memᴰ}
use Prim.Native.Nat.{ℕ, ◌+◌}
use native.Mathlib.Omega.{arith}
use Rattle.rules.specs.Line.{Waiting, unmarked, marked}
use Rattle.rules.specs.Step.{Call, arrive, advance, Start, Answer, admitted, started, nothing_due, refused}
use Rattle.rules.specs.History.{starts, Arrival, admitted_from, start_counts, counted}
use Rattle.rules.specs.History as history
use Rattle.rules.specs.Printed.{line_of}
use Rattle.scheduler_guarantees.specs.Lines.{Begun, begun_in, admissions_in, gone_in, admitted_in}

abbrev pub begun_of : Start → Begun
begun_of x = record { number = history.number_of x; at = x.at; extra = x.extra; dropped = x.dropped }

pub begun-told : (rs : List Answer) → begun_in (map line_of rs) ≡ map begun_of (starts rs)
begun-told [] = refl
begun-told (admitted (unmarked p) e ∷ rs) = begun-told rs
begun-told (admitted (marked p) e ∷ rs) = begun-told rs
begun-told (started x ∷ rs) = ap (λ (l : List Begun). begun_of x ∷ l) (begun-told rs)
begun-told (nothing_due ∷ rs) = begun-told rs
begun-told (refused n ∷ rs) = begun-told rs

pub admitted-told : (n : ℕ) (cs : List Call) (rs : List Answer) → admitted_in n cs (map line_of rs) ≡ admitted_from n cs rs
admitted-told n [] rs = refl
admitted-told n (c ∷ cs) [] = refl
admitted-told n (arrive μ len place t ∷ cs) (admitted (unmarked p) e ∷ rs) =
    ap (λ (l : List Arrival). record { marking = μ; number = n; len = len; place = place; arrival = t } ∷ l) (admitted-told (1 + n) cs rs)
admitted-told n (arrive μ len place t ∷ cs) (admitted (marked p) e ∷ rs) =
    ap (λ (l : List Arrival). record { marking = μ; number = n; len = len; place = place; arrival = t } ∷ l) (admitted-told (1 + n) cs rs)
admitted-told n (arrive μ len place t ∷ cs) (started x ∷ rs) = admitted-told n cs rs
admitted-told n (arrive μ len place t ∷ cs) (nothing_due ∷ rs) = admitted-told n cs rs
admitted-told n (arrive μ len place t ∷ cs) (refused k ∷ rs) = admitted-told n cs rs
admitted-told n (advance t ∷ cs) (r ∷ rs) = admitted-told n cs rs

-- The counts of admitted and gone packets are the tallies' sums.
start-counts : (w : Waiting) (n : ℕ) → (start_counts w n).unmarked_started + (start_counts w n).marked_started + (start_counts w n).marked_dropped ≡ 1 + n
start-counts (unmarked p) n = refl
start-counts (marked p) n = refl

start-admits-none : (w : Waiting) (n : ℕ) → (start_counts w n).unmarked_admitted + (start_counts w n).marked_admitted ≡ 0
start-admits-none (unmarked p) n = refl
start-admits-none (marked p) n = refl

pub admissions-told : (rs : List Answer) → admissions_in (map line_of rs) ≡ (counted rs).unmarked_admitted + (counted rs).marked_admitted
admissions-told [] = refl
admissions-told (admitted (unmarked p) e ∷ rs) = omega (arith, admissions-told rs)
admissions-told (admitted (marked p) e ∷ rs) = omega (arith, admissions-told rs)
admissions-told (started x ∷ rs) = omega (arith, admissions-told rs, start-admits-none x.what x.dropped)
admissions-told (nothing_due ∷ rs) = omega (arith, admissions-told rs)
admissions-told (refused n ∷ rs) = omega (arith, admissions-told rs)

pub gone-told : (rs : List Answer) → gone_in (map line_of rs) ≡ (counted rs).unmarked_started + (counted rs).marked_started + (counted rs).marked_dropped
gone-told [] = refl
gone-told (admitted (unmarked p) e ∷ rs) = omega (arith, gone-told rs)
gone-told (admitted (marked p) e ∷ rs) = omega (arith, gone-told rs)
gone-told (started x ∷ rs) = omega (arith, gone-told rs, start-counts x.what x.dropped)
gone-told (nothing_due ∷ rs) = omega (arith, gone-told rs)
gone-told (refused n ∷ rs) = omega (arith, gone-told rs)

module _ {A B : Type 0} (f : A → B) where
  -- What stands in an image comes from somewhere.
  pub member_from : (y : B) (l : List A) → Memᴰ y (map f l) → (x : A) × Memᴰ x l × (y ≡ f x)
  member_from y [] m = elim m [ ]
  member_from y (x ∷ l) (Memᴰ.head e) = (x, Memᴰ.head refl, e)
  member_from y (x ∷ l) (Memᴰ.tail m) =
      let h = member_from y l m in
      (h.0, Memᴰ.tail h.1, h.2)

  pub member_to : (x : A) (l : List A) → Memᴰ x l → Memᴰ (f x) (map f l)
  member_to x [] m = elim m [ ]
  member_to x (z ∷ l) (Memᴰ.head e) = Memᴰ.head (ap f e)
  member_to x (z ∷ l) (Memᴰ.tail m) = Memᴰ.tail (member_to x l m)
