-- The slots of the sheet, by the types of records. Assumes nothing.
use Prim.Native.Nat.{ℕ, ◌+◌, ◌≤◌}
use native.Mathlib.Omega.{arith}
use mathlib.Core.Bool.{Bool, true, false, ◌&&◌, ◌||◌, not, cond, and-eq-true_iff}
use mathlib.Core.List.{List, [], ◌∷◌}
use mathlib.Core.Path.{◌≡◌, refl, ap}
use lib.Dec.{leb, eqb}
use lib.ListN.{length, take, drop, length-take, length-drop}
use lib.Seq.{sets}
use borrow.Author.Tests.{leb-true, eqb-true}
use Rattle.text.specs.DataTypes.{every}
use Rattle.frame.specs.Frames.{part}
use Rattle.layout.specs.Layout.{Layout}
use Rattle.layout.specs.Layouts.{layouts}
use Rattle.order.specs.MayFollow.{is_carried, carried, table, follows, one_item_type, may_follow}
use Rattle.order.proofs.Laws.{among}
use Rattle.order.proofs.Pairs.{throughout, listed}
use Rattle.ascii_copy.proofs.SoundCharacters.{width_in, width_of}
use Rattle.draft.specs.Values.{layout_among, layout_of}
use Rattle.sheet.specs.Sheet.{slot_of, SameFront}
use Rattle.sheet.proofs.Parts.{part-before, part-behind}

-- a 01 stands at the start alone
pub only-first : (opened : Bool) (last present t : ℕ) → may_follow opened last present t ≡ true → eqb t 1 ≡ true → last ≡ 0
unfolding may_follow follows
only-first opened last present t may e =
    let may-last : ℕ → ℕ → Bool = λ l n. not (eqb n 1) || eqb l 0 in
    let both = (and-eq-true_iff (follows opened last t) (one_item_type present t)).0 may in
    eqb-true last 0 (rw e at (listed may-last last t (table opened) (all opened) both.0))
  where
    all : (opened : Bool) → throughout (λ l n. not (eqb n 1) || eqb l 0) (table opened) ≡ true
    all true = refl
    all false = refl

-- a layout's width
wide-among : (ks : List Layout) (t : ℕ) → width_in ks t ≤ (layout_among ks t).fixed_length
wide-among [] t = omega arith
wide-among (k ∷ ks) t = by (eqb t k.type_number) (wide-among ks t)
  where
    by : (b : Bool) → width_in ks t ≤ (layout_among ks t).fixed_length
        → cond b k.fixed_length (width_in ks t) ≤ (cond b k (layout_among ks t)).fixed_length
    by true h = omega arith
    by false h = h

pub wide : (t : ℕ) → width_of t ≤ (layout_of t).fixed_length
unfolding layout_of
wide t = wide-among layouts t

pub low-slot : (t : ℕ) → is_carried t ≡ true → slot_of t ≤ 640
unfolding is_carried
low-slot t c = leb-true (slot_of t) 640 (among (λ t. leb (slot_of t) 640) t carried refl c)

pub no_zero : (t : ℕ) → is_carried t ≡ true → t ≡ 0 → ⊥
unfolding is_carried
no_zero t c q =
    let never : false ≡ true = rw q at c in
    let z : ◌≡◌ {A = ℕ} 0 1 = cc in
    omega arith

-- slots that do not touch
abbrev pub apart : ℕ → ℕ → Bool
apart p q = leb (p + 160) q || leb (q + 160) p

-- A sort of records whose newest has a slot k, computed of each type: one of the sort has the slot, and is wide enough to be compared; so is a 01;
-- and the slot of any other is neither k nor that of the 01.
abbrev pub newest_fits : ℕ → ℕ → Bool
newest_fits k t = eqb (slot_of t) k && leb 80 (width_of t)

abbrev pub other_fits : ℕ → ℕ → Bool
other_fits k t = leb k 640 && (apart 0 (slot_of t) && apart k (slot_of t))

abbrev pub slot_fits : (ℕ → Bool) → ℕ → ℕ → Bool
slot_fits sort k t = cond (sort t) (newest_fits k t) (cond (eqb t 1) (leb 80 (width_of t)) (other_fits k t))

holds_then : (a x w : Bool) → a ≡ true → cond a x w ≡ true → x ≡ true
holds_then a x w q h = rw q at h

holds-else : (a x w : Bool) → a ≡ false → cond a x w ≡ true → w ≡ true
holds-else a x w q h = rw q at h

module _ (sort : ℕ → Bool) (k : ℕ) (fits : every (slot_fits sort k) carried ≡ true) (t : ℕ) (c : is_carried t ≡ true) where
  fits-of : slot_fits sort k t ≡ true
  unfolding is_carried
  fits-of = among (slot_fits sort k) t carried fits c

  else-fits : sort t ≡ false → cond (eqb t 1) (leb 80 (width_of t)) (other_fits k t) ≡ true
  else-fits q = holds-else (sort t) (newest_fits k t) (cond (eqb t 1) (leb 80 (width_of t)) (other_fits k t)) q fits-of

  pub newest-fits : sort t ≡ true → (slot_of t ≡ k) × (80 ≤ width_of t)
  newest-fits q =
      let both = (and-eq-true_iff (eqb (slot_of t) k) (leb 80 (width_of t))).0 (holds_then (sort t) (newest_fits k t) (cond (eqb t 1) (leb 80 (width_of t)) (other_fits k t)) q fits-of) in
      (eqb-true (slot_of t) k both.0, leb-true 80 (width_of t) both.1)

  pub first_fits : sort t ≡ false → eqb t 1 ≡ true → 80 ≤ width_of t
  first_fits q z = leb-true 80 (width_of t) (holds_then (eqb t 1) (leb 80 (width_of t)) (other_fits k t) z (else-fits q))

  pub other_fits_lem : sort t ≡ false → eqb t 1 ≡ false → (b : Bool) → (cond b k 0 ≤ 640) × (apart (cond b k 0) (slot_of t) ≡ true)
  other_fits_lem q z b =
      let other = holds-else (eqb t 1) (leb 80 (width_of t)) (other_fits k t) z (else-fits q) in
      let low = (and-eq-true_iff (leb k 640) (apart 0 (slot_of t) && apart k (slot_of t))).0 other in
      let both = (and-eq-true_iff (apart 0 (slot_of t)) (apart k (slot_of t))).0 low.1 in
      by b (leb-true k 640 low.0) both
    where
      by : (b : Bool) → k ≤ 640 → (apart 0 (slot_of t) ≡ true) × (apart k (slot_of t) ≡ true)
          → (cond b k 0 ≤ 640) × (apart (cond b k 0) (slot_of t) ≡ true)
      by true h both = (h, both.1)
      by false h both = (omega arith, both.0)

-- what is completed in one slot leaves another as it is
pub slot_kept : (sheet fixed : List ℕ) (p q : ℕ) → length fixed ≤ 139 → apart p q ≡ true → part (p + 4) 80 (sets sheet (q + 4) fixed) ≡ part (p + 4) 80 sheet
slot_kept sheet fixed p q h a = by (leb (p + 160) q) refl a
  where
    by : (b : Bool) → leb (p + 160) q ≡ b → b || leb (q + 160) p ≡ true → part (p + 4) 80 (sets sheet (q + 4) fixed) ≡ part (p + 4) 80 sheet
    by true z a = part-before sheet (q + 4) fixed (p + 4) 80 (omega (arith, leb-true (p + 160) q z))
    by false z a = part-behind sheet (q + 4) fixed (p + 4) 80 (omega (arith, leb-true (q + 160) p a))

-- no record that is compared lies half behind the end of its file
pub front-within : (sheet file : List ℕ) (p at : ℕ) → p + 84 ≤ length sheet → SameFront sheet p file at → at + 4 + 80 ≤ length file
front-within sheet file p at h f =
    omega (arith, ap length f, length-take 80 (drop (p + 4) sheet), length-drop (p + 4) sheet, length-take 80 (drop (at + 4) file), length-drop (at + 4) file)
