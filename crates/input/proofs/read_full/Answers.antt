-- A read behind what came adds to it what the input lost.
use Rattle.std.proofs.Common.{◌≡◌, ℕ, ◌+◌, ◌-◌, ◌≤◌, List, ◌++◌, rules, length, take, sym, ap, ◌∙◌, subst, length-take-le}
use Rattle.std.proofs.Math.Seq.{take-append-add}
use Rattle.std.proofs.lemmas.List.{take-append-le}
use Rattle.std.proofs.KnownBytes.{Consumes-trans}
use Rattle.std.specs.Io.KnownBytes.{Consumes}
use borrow.Rule.Slice.PartMut.{put_mid, post_of}
use Rattle.input.proofs.read_full.Goals as goal

filled : (a k n : ℕ) (xs ys : List ℕ) → a ≤ length xs → n ≤ length ys → take (a + n) (put_mid a k xs ys) ≡ take a xs ++ take n ys
filled a k n xs ys within fits =
    subst (λ (m : ℕ). take (m + n) (put_mid a k xs ys) ≡ take a xs ++ take n ys) (length-take-le a xs within)
    (take-append-add (take a xs) (ys ++ post_of a k xs) n
    ∙ ap (λ (l : List ℕ). take a xs ++ l) (take-append-le n ys (post_of a k xs) fits))

pub loop-got-preserved : goal.loop-got-preserved
loop-got-preserved g c =
    let from = c.loop-got.got in
    let part = filled from (length c.loop-got.area - from) c.in_ok-n.n c.loop-got.area c.read.new.buf c.loop-got.invariant.0 c.in_ok-n.ensures.bound.0 in
    (search rules, search rules, subst (Consumes _ _) (sym part) (Consumes-trans _ _ _ _ _ c.loop-got.invariant.2 c.in_ok-n.ensures.bytes.0))
