-- A flow by itself, in parts, and that it has one possible list of answers. Assumes nothing.
use mathlib.Core.Path.{◌≡◌, refl, sym, ap, ◌∙◌}
use mathlib.Core.Bool.{Bool}
use mathlib.Core.List.{List, [], ◌∷◌, ◌++◌, map, head-eq_of_cons-eq, tail-eq_of_cons-eq}
use Prim.Native.Nat.{ℕ}
use native.Mathlib.Omega.{arith}
use Rattle.marker_flows.specs.declared.Flow.{Flow}
use Rattle.marker_rules.specs.Bucket.{Bucket, holds, bucket_then}
use Rattle.marker_rules.specs.Told.{Passed}
use Rattle.marker_rules.specs.Apart.{Alone, bucket_after, Packet, packet_of}

same-passed : (l l' t t' : ℕ) (u u' : Bool) → l ≡ l' → t ≡ t' → u ≡ u' → ◌≡◌ {A = Passed} (record { len = l; at = t; unmarked = u }) (record { len = l'; at = t'; unmarked = u' })
same-passed l l' t t' u u' e f g = rw (e, f, g)

module _ (w : Flow) where
  -- The first packets, and those that follow, from the bucket that the first leave.
  pub alone-first : (b : Bucket) (ps qs : List Passed) → Alone w b (ps ++ qs) → Alone w b ps
  alone-first b [] qs a = tt
  alone-first b (p ∷ ps) qs a = (a.0, a.1, alone-first (bucket_then w b p.len p.at) ps qs a.2)

  pub alone_rest : (b : Bucket) (ps qs : List Passed) → Alone w b (ps ++ qs) → Alone w (bucket_after w b ps) qs
  alone_rest b [] qs a = a
  alone_rest b (p ∷ ps) qs a = alone_rest (bucket_then w b p.len p.at) ps qs a.2

  -- The same packets have the same answers.
  pub alone-one : (b : Bucket) (ps qs : List Passed) → Alone w b ps → Alone w b qs → map packet_of ps ≡ map packet_of qs → ps ≡ qs
  alone-one b [] [] a c e = refl
  alone-one b [] (q ∷ qs) a c e = let z : ◌≡◌ {A = ℕ} 0 1 = cc in absurd (omega arith)
  alone-one b (p ∷ ps) [] a c e = let z : ◌≡◌ {A = ℕ} 0 1 = cc in absurd (omega arith)
  alone-one b (p ∷ ps) (q ∷ qs) a c e =
      let same = head-eq_of_cons-eq e in
      let l : p.len ≡ q.len = ap (λ (x : Packet). x.len) same in
      let t : p.at ≡ q.at = ap (λ (x : Packet). x.at) same in
      let h : holds w b p.len p.at ≡ holds w b q.len q.at = rw (l, t) in
      let u : p.unmarked ≡ q.unmarked = a.1 ∙ h ∙ sym c.1 in
      let whole : p ≡ q = same-passed p.len q.len p.at q.at p.unmarked q.unmarked l t u in
      let rest = alone-one (bucket_then w b p.len p.at) ps qs a.2 (rw (l, t) c.2) (tail-eq_of_cons-eq e) in
      rw (whole, rest)
