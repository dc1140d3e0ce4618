-- Nothing is marked without need, and with need everything is: the stretch begins with the last packet that found the bucket full. Assumes nothing.
use mathlib.Core.Path.{◌≡◌, refl, sym, ap, ◌∙◌}
use mathlib.Core.Bool.{Bool, true, false}
use mathlib.Core.List.{List, [], ◌∷◌, ◌++◌, append_assoc, append-nil}
use Prim.Native.Nat.{ℕ, ◌+◌, ◌*◌, ◌-◌, ◌≤◌, ◌<◌}
use native.Mathlib.Omega.{arith}
use lib.Dec.{leb}
use borrow.Author.Tests.{leb-true, leb-false}
use Rattle.marker_flows.specs.declared.Flow.{Flow}
use Rattle.marker_rules.specs.Bucket.{Bucket, million, top_of, level_of, holds, bucket_then}
use Rattle.marker_rules.specs.Told.{Passed, last_of, span_of, only_if, unmarked_bytes, instants_of, of_flow}
use Rattle.marker_rules.specs.Apart.{Alone, bucket_after}
use Rattle.marker_rules.specs.Stretches.{Needed, MarksExactly, left_unmarked, InExcess}
use Rattle.marker_rules.proofs.Laws.{inflow, no_inflow, paid, looked_then}
use Rattle.marker_rules.proofs.Alone.{alone-first, alone_rest}
use Rattle.marker_rules.proofs.Bound.{own-bounded}
use Rattle.marker_rules.proofs.Cuts.{bound-is-own}

-- One packet more at the end.
bytes-more : (ps : List Passed) (p : Passed) → unmarked_bytes (ps ++ p ∷ []) ≡ unmarked_bytes ps + only_if p.unmarked p.len
bytes-more [] p = omega arith
bytes-more (q ∷ ps) p = omega (arith, bytes-more ps p)

last_more : (t : ℕ) (ps : List Passed) (p : Passed) → last_of t (instants_of (ps ++ p ∷ [])) ≡ p.at
last_more t [] p = refl
last_more t (q ∷ ps) p = last_more q.at ps p

-- Packets that begin at t.
abbrev BeginAt : (t : ℕ) → List Passed → Type 0
BeginAt t ps = (first : Passed) × (more : List Passed) × (ps ≡ first ∷ more) × (first.at ≡ t)

span_more : (t : ℕ) (ps : List Passed) (p : Passed) → BeginAt t ps → span_of (instants_of (ps ++ p ∷ [])) ≡ p.at - t
span_more t ps p g = rw g.2 (rw (last_more g.0.at g.1 p, g.3))

begin_more : (t : ℕ) (ps : List Passed) (p : Passed) → BeginAt t ps → BeginAt t (ps ++ p ∷ [])
begin_more t ps p g = (g.0, g.1 ++ p ∷ [], ap (λ (l : List Passed). l ++ p ∷ []) g.2, g.3)

module _ (w : Flow) where
  -- A stretch of what was done that began at an instant with the bucket full, and none of the inflow was lost since: what the bucket holds and
  -- what was paid make depth and inflow.
  record Since (done : List Passed) (b : Bucket) : Type 0 where
    before : List Passed
    these : List Passed
    split : done ≡ before ++ these
    from : ℕ
    begins : BeginAt from these
    past : from ≤ b.looked
    exact : b.held + million * unmarked_bytes these ≡ top_of w + w.rate * (b.looked - from)

  -- The bucket is full, or there is such a stretch.
  data Traced (done : List Passed) (b : Bucket) : Type 0 where
    brimful : b.held ≡ top_of w → Traced done b
    since : Since done b → Traced done b

  -- One packet more.
  module _ (done : List Passed) (b : Bucket) (p : Passed) (o : b.looked ≤ p.at) (u : p.unmarked ≡ holds w b p.len p.at) where
    abbrev next : Bucket
    next = bucket_then w b p.len p.at

    took : next.held + million * only_if p.unmarked p.len ≡ level_of w b p.at
    took = rw u (paid w b p.len p.at)

    -- Its fill was cut off by the depth: the stretch begins anew.
    begun : top_of w ≤ b.held + w.rate * (p.at - b.looked) → Since (done ++ p ∷ []) next
    begun h =
        let l = looked_then w b p.len p.at in
        record {
          before = done;
          these = p ∷ [];
          split = refl;
          from = p.at;
          begins = (p, [], refl, refl);
          past = omega arith;
          exact = rw l (omega (arith, took, no_inflow w.rate p.at));
        }

    -- It was not: the stretch goes on.
    gone_on : b.held + w.rate * (p.at - b.looked) < top_of w → Since done b → Since (done ++ p ∷ []) next
    gone_on h x =
        let l = looked_then w b p.len p.at in
        record {
          before = x.before;
          these = x.these ++ p ∷ [];
          split = ap (λ (l : List Passed). l ++ p ∷ []) x.split ∙ append_assoc x.before x.these (p ∷ []);
          from = x.from;
          begins = begin_more x.from x.these p x.begins;
          past = omega (arith, x.past);
          exact =
              rw (l, bytes-more x.these p)
              (omega (arith, took, x.exact, inflow w.rate x.from b.looked p.at x.past o));
        }

    traced-by : (c : Bool) → leb (top_of w) (b.held + w.rate * (p.at - b.looked)) ≡ c → Traced done b → Traced (done ++ p ∷ []) next
    traced-by true e x = since (begun (leb-true _ _ e))
    traced-by false e (brimful f) = absurd (omega (arith, leb-false))
    traced-by false e (since x) = since (gone_on (leb-false _ _ e) x)

    -- A packet whose length the bucket does not hold.
    short_stretch : top_of w < million * p.len → Needed w done p
    short_stretch h =
        record { before = done; these = []; split = sym (append-nil done); over = omega (arith, no_inflow w.rate p.at, h) }

    long_stretch : Since done b → b.held + w.rate * (p.at - b.looked) < million * p.len → Needed w done p
    long_stretch x h =
        record {
          before = x.before;
          these = x.these;
          split = x.split;
          over =
              rw (span_more x.from x.these p x.begins)
              (omega (arith, x.exact, inflow w.rate x.from b.looked p.at x.past o));
        }

    needed-by : (c : Bool) → leb (top_of w) (b.held + w.rate * (p.at - b.looked)) ≡ c → level_of w b p.at < million * p.len → Traced done b → Needed w done p
    needed-by true e h x = short_stretch (omega (arith, leb-true))
    needed-by false e h (brimful f) = absurd (omega (arith, leb-false))
    needed-by false e h (since x) = long_stretch x (omega (arith, leb-false))

    needed : p.unmarked ≡ false → Traced done b → Needed w done p
    needed m x = needed-by _ refl (leb-false _ _ (sym u ∙ m)) x

  -- Over all that was done.
  traced : (done ps : List Passed) (b : Bucket) → Alone w b ps → Traced done b → Traced (done ++ ps) (bucket_after w b ps)
  traced done [] b a x = rw (append-nil done) x
  traced done (p ∷ ps) b a x =
      rw (← append_assoc done (p ∷ []) ps)
      (traced (done ++ p ∷ []) ps (bucket_then w b p.len p.at) a.2 (traced-by done b p a.0 a.1 _ refl x))

  -- A packet that there is need to mark was not left unmarked: it would break the bound.
  marked_then : (b : Bucket) (done : List Passed) (p : Passed) (later : List Passed) → Alone w b (done ++ p ∷ later) → Needed w done p
      → (c : Bool) → p.unmarked ≡ c → p.unmarked ≡ false
  marked_then b done p later a n false e = e
  marked_then b done p later a n true e =
      let s : done ++ p ∷ later ≡ n.before ++ ((n.these ++ p ∷ []) ++ later) =
      rw (n.split, append_assoc n.before n.these (p ∷ later), append_assoc n.these (p ∷ []) later) in
      let k = own-bounded w b (done ++ p ∷ later) a n.before (n.these ++ p ∷ []) later s in
      let u = bytes-more n.these p in
      let v = ap (λ (x : Bool). only_if x p.len) e in
      absurd (omega (arith, k, u, v, n.over))

  pub marks-exactly : (b : Bucket) (ps : List Passed) → b.held ≡ top_of w → Alone w b ps → MarksExactly w ps
  marks-exactly b ps f a done p later e =
      let whole : Alone w b (done ++ p ∷ later) = rw (← e) a in
      let rest = alone_rest w b done (p ∷ later) whole in
      let x = traced [] done b (alone-first w b done (p ∷ later) whole) (brimful f) in
      ((λ m. needed done (bucket_after w b done) p rest.0 rest.1 m x), (λ n. marked_then b done p later whole n _ refl))

-- The instants are those of the packet as it came.
same-instants : (ps : List Passed) (p : Passed) → instants_of (ps ++ left_unmarked p ∷ []) ≡ instants_of (ps ++ p ∷ [])
same-instants [] p = refl
same-instants (q ∷ ps) p = ap (λ (ts : List ℕ). q.at ∷ ts) (same-instants ps p)

pub in_excess : InExcess
in_excess w f done p hs n e k =
    let s : of_flow f hs ≡ n.before ++ ((n.these ++ left_unmarked p ∷ []) ++ []) =
    rw (e, n.split, append_assoc n.before n.these (left_unmarked p ∷ []), append-nil (n.these ++ left_unmarked p ∷ [])) in
    let h = bound-is-own w f hs k n.before (n.these ++ left_unmarked p ∷ []) [] s in
    let u = bytes-more n.these (left_unmarked p) in
    let e = ap (λ (ts : List ℕ). w.rate * span_of ts) (same-instants n.these p) in
    omega (arith, h, u, e, n.over)
