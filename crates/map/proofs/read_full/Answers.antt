-- `read_full`: a turn takes what it reads from the reader, and puts it behind what was read before.
use Rattle.std.proofs.Common.{◌≡◌, ℕ, ◌+◌, ◌≤◌, List, ◌++◌, length, take, sym, ap, ◌∙◌, subst, rules, le_refl, drop_at, length-take-le}
use Rattle.std.proofs.lemmas.Slice.{take-put_mid_below}
use Rattle.std.specs.Io.KnownBytes.{Consumes}
use Rattle.std.proofs.KnownBytes.{Consumes-trans}
use borrow.Rule.Slice.PartMut.{put_mid, post_of}
use lib.Seq.{take-add, take-append-le}
use Rattle.map.proofs.read_full.Goals as goal

-- the first a + n bytes of a list whose part from a on was replaced
taken : (a k n : ℕ) (xs ys : List ℕ) → a ≤ length xs → n ≤ length ys → take a xs ++ take n ys ≡ take (a + n) (put_mid a k xs ys)
taken a k n xs ys within fits =
    let behind = drop_at (take a xs) (ys ++ post_of a k xs) a (length-take-le a xs within) in
    ap (λ l. l ++ take n ys) (sym (take-put_mid_below _ _ _ _ _ (le_refl _) within))
    ∙ ap (λ l. take a (put_mid a k xs ys) ++ l) (sym (ap (take n) behind ∙ take-append-le n ys (post_of a k xs) fits))
    ∙ sym (take-add a n (put_mid a k xs ys))

pub loop-n-preserved : goal.loop-n-preserved
loop-n-preserved g c =
    let r = c.in_ok-read in
    let i = c.loop-n.invariant in
    (search rules, subst (Consumes _ _) (taken _ _ r.read _ _ i.0 r.ensures.bound.0) (Consumes-trans _ _ _ _ _ i.1 r.ensures.bytes.0))
