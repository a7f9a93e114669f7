use Rattle.std.proofs.Common.{◌≡◌, ◌∙◌, ap, sym, subst, length, arith, ℕ, ◌<◌, ◌*◌, List, slice_get, Some}
use Rattle.texts.proofs.Paired.{length-pairs_of, first-pairs_of}
use Rattle.std.specs.Global.{Vec}
use Rattle.texts.specs.Texts.{Bytes, texts_of, pairs_of, firsts}
use Rattle.texts.proofs.pairs.Pairs.first_at.Goals as goal

-- a place of a pair is twice a place below the number of strings
twice_below : (ts : List (Vec ℕ)) (pairs : List (Bytes × Bytes)) (i : ℕ) → pairs_of (texts_of ts) ≡ pairs → i < length pairs
    → 2 * i < length ts
twice_below ts pairs i seen within = let half = length-pairs_of ts in omega (arith, half.0, within, ap length seen)

pub overflow_mul-place : goal.overflow_mul-place
overflow_mul-place c =
    let below = twice_below c.as_slice-texts.result.now c.args.self.now c.args.place
    (ap (λ ts. pairs_of (texts_of ts)) c.as_slice-texts.ensures.value ∙ c.self.view_is) c.requires in
    omega (arith, below, c.as_slice-texts.type_inv.0)

pub offset_bounds-texts-place : goal.offset_bounds-texts-place
offset_bounds-texts-place c =
    let below = twice_below c.as_slice-texts.result.now c.args.self.now c.args.place
    (ap (λ ts. pairs_of (texts_of ts)) c.as_slice-texts.ensures.value ∙ c.self.view_is) c.requires in
    omega (arith, below, c.as_slice-texts.type_inv.1)

pub bounds-texts-place : goal.bounds-texts-place
bounds-texts-place c =
    twice_below c.as_slice-texts.result.now c.args.self.now c.args.place (ap (λ ts. pairs_of (texts_of ts)) c.as_slice-texts.ensures.value
    ∙ c.self.view_is) c.requires

pub returns : goal.returns
returns c =
    let ts = c.as_slice-texts.result.now in
    let seen : pairs_of (texts_of ts) ≡ c.args.self.now = ap (λ ts. pairs_of (texts_of ts)) c.as_slice-texts.ensures.value
    ∙ c.self.view_is in
    let t = c.index-texts-place.result in
    let within = subst (λ ps. c.args.place < length ps) (sym seen) c.requires in
    ap (λ ps. slice_get (firsts ps) c.args.place) (sym seen)
    ∙ first-pairs_of ts c.args.place t within c.index-texts-place.is
    ∙ ap Some (sym c.as_slice.ensures.value)
