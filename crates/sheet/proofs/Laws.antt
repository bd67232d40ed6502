-- The sheet stands for the file: a record completed in its slot agrees with those before it, and moves their figures on, as it does where it is
-- set out behind the file. Assumes nothing.
use Prim.Native.Nat.{ℕ, ◌+◌, ◌≤◌}
use native.Mathlib.Omega.{arith}
use mathlib.Core.Bool.{Bool, true, false, ◌||◌, cond}
use mathlib.Core.List.{List, [], ◌∷◌, ◌++◌}
use mathlib.Core.Path.{◌≡◌, refl, sym, ap, ◌∙◌}
use lib.Dec.{eqb}
use lib.ListN.{length, drop, length-append}
use lib.Seq.{sets, length-sets}
use borrow.Author.Tests.{eqb-true}
use Rattle.text.specs.declared.character_set.CharacterSet.TheVariants.{Ascii}
use Rattle.text.specs.DataTypes.{every}
use Rattle.layout.specs.declared.packing.Origin.{Origin}
use Rattle.layout.specs.declared.packing.Origin.TheVariants.{Given, TypeNumber, PartSize, AddendumCount, RecordNumber, DebitCount, DebitCents, MicrCents, ViewCount, CreditCount, CreditCents, BundleCount, LetterCount, RecordCount, ItemCount}
use Rattle.layout.specs.Layout.{Line}
use Rattle.order.specs.MayFollow.{is_item, is_carried, carried, may_follow}
use Rattle.order.proofs.Laws.{first-type}
use Rattle.standing.specs.History.{Entry, entry}
use Rattle.standing.specs.Standing.{standing, onward, capped_figures}
use Rattle.standing.specs.declared.Standing.{Standing}
use Rattle.standing.proofs.Laws.{standing-onward, onward-capped}
use Rattle.passes.specs.CheckOrder.{agreement}
use Rattle.passes.proofs.Capped.{agreement-capped}
use Rattle.file_as_records.specs.Framed.{framed}
use Rattle.ascii_copy.proofs.SoundCharacters.{width_of}
use Rattle.alike.proofs.Alike.{AlikeAt, narrower}
use Rattle.alike.proofs.Figures.{placed, onward-alike}
use Rattle.alike.proofs.Agreement.{Compared, agreement-placed}
use Rattle.own_fault.proofs.SameBefore.{Same, SamePast, law, standing-same}
use Rattle.draft.specs.Values.{Piece, Values, layout_of}
use Rattle.draft.specs.Completed.{statement, fixed_part}
use Rattle.draft.proofs.Own.{carried-wide}
use Rattle.sheet.specs.Sheet.{slot_of, unplaced, SameFront, has_come, Within, OnSheet}
use Rattle.sheet.proofs.Parts.{part-stored, part-first, record-begins, record-long}
use Rattle.sheet.proofs.Slots.{only-first, wide, low-slot, no_zero, slot_fits, newest-fits, first_fits, other_fits_lem, slot_kept, front-within}

pub sheet-starts : (sheet : List ℕ) → length sheet ≡ 800 → (s : Standing) → s ≡ capped_figures (standing Ascii [] []) → OnSheet [] [] sheet s
unfolding standing
sheet-starts sheet long s e = record {
  long = long;
  figures = ap unplaced e;
  item = λ h. absurd (omega arith);
  header = λ h. absurd (omega arith);
  heading = λ h. absurd (omega arith);
  start = λ h. absurd (omega arith);
  item_slot = ap (λ (u : Standing). u.item) e;
  header_slot = ap (λ (u : Standing). u.header) e;
  heading_slot = ap (λ (u : Standing). u.heading) e;
  within = tt;
  begun = λ _. (refl, refl);
}

-- the places do not count for what is worked out
statement-unplaced : (v : Values) (addenda : ℕ) (s : Standing) (first : ℕ) (origin : Origin)
    → statement v addenda (unplaced s) first origin ≡ statement v addenda s first origin
statement-unplaced v addenda s first Given = refl
statement-unplaced v addenda s first TypeNumber = refl
statement-unplaced v addenda s first PartSize = refl
statement-unplaced v addenda s first AddendumCount = refl
statement-unplaced v addenda s first RecordNumber = refl
statement-unplaced v addenda s first DebitCount = refl
statement-unplaced v addenda s first DebitCents = refl
statement-unplaced v addenda s first MicrCents = refl
statement-unplaced v addenda s first ViewCount = refl
statement-unplaced v addenda s first CreditCount = refl
statement-unplaced v addenda s first CreditCents = refl
statement-unplaced v addenda s first BundleCount = refl
statement-unplaced v addenda s first LetterCount = refl
statement-unplaced v addenda s first RecordCount = refl
statement-unplaced v addenda s first ItemCount = refl

fixed-unplaced : (v : Values) (addenda : ℕ) (s : Standing) (ls : List Line) (ps : List Piece)
    → fixed_part v addenda (unplaced s) ls ps ≡ fixed_part v addenda s ls ps
unfolding fixed_part
fixed-unplaced v addenda s [] ps = refl
fixed-unplaced v addenda s (l ∷ ls) ps =
    rw (
      statement-unplaced v addenda s l.first l.origin,
      fixed-unplaced v addenda s ls (drop 1 ps),
      fixed-unplaced v addenda s ls ps,
    )

-- more behind the file
within_more : {m n : ℕ} (past : List Entry) → m ≤ n → Within m past → Within n past
within_more [] h w = tt
within_more (r ∷ rs) h w = (omega (arith, w.0), within_more rs h w.1)

past_same : (file more : List ℕ) (past : List Entry) → Within (length file) past → SamePast file (file ++ more) past
past_same file more [] w = tt
past_same file more (r ∷ rs) w = (
  record { same = part-first (r.offset + 4) (width_of r.type) file more (omega (arith, w.0, wide r.type)) },
  past_same file more rs w.1,
)

module _ {file : List ℕ} {past : List Entry} {sheet : List ℕ} {s : Standing} (o : OnSheet file past sheet s) where
  pub sheet-follows : (s.inside ≡ (standing Ascii file past).inside) × (s.last ≡ (standing Ascii file past).last) × (s.present ≡ (standing Ascii file past).present)
  sheet-follows = (
    ap (λ (u : Standing). u.inside) o.figures,
    ap (λ (u : Standing). u.last) o.figures,
    ap (λ (u : Standing). u.present) o.figures,
  )

  pub sheet-fixed : (v : Values) (addenda : ℕ) (ls : List Line) (ps : List Piece)
      → fixed_part v addenda s ls ps ≡ fixed_part v addenda (capped_figures (standing Ascii file past)) ls ps
  sheet-fixed v addenda ls ps =
      sym (fixed-unplaced v addenda s ls ps) ∙ ap (λ (u : Standing). fixed_part v addenda u ls ps) o.figures
      ∙ fixed-unplaced v addenda (capped_figures (standing Ascii file past)) ls ps

  as-placed : s ≡ placed (capped_figures (standing Ascii file past)) s.item s.header s.heading
  as-placed = ap (λ (u : Standing). placed u s.item s.header s.heading) o.figures

-- the first record is a 01, and no other is
behind : {file : List ℕ} (past : List Entry) {sheet : List ℕ} {s : Standing} → OnSheet file past sheet s → (t : ℕ)
    → may_follow s.inside s.last s.present t ≡ true → eqb t 1 ≡ false → 1 ≤ length past
unfolding standing
behind [] o t may other =
    let f = sheet-follows o in
    let one = first-type t (rw (f.0, f.1, f.2) at may) in
    let z : ◌≡◌ {A = ℕ} 0 1 = cc in
    absurd (omega arith)
behind (r ∷ rs) o t may other = omega arith

-- where the newest record of a sort stands on the sheet and in the file, or, where there is none yet, the 01
record Place (file : List ℕ) (past : List Entry) (sheet : List ℕ) (sort : ℕ → Bool) (k p at : ℕ) : Type 0 where
  fits : every (slot_fits sort k) carried ≡ true
  slot : p ≡ cond (has_come sort past) k 0
  none : past ≡ [] → at ≡ 0
  front : 1 ≤ length past → SameFront sheet p file at

module _ {file : List ℕ} {past : List Entry} {sheet : List ℕ} {s : Standing} (o : OnSheet file past sheet s) where
  item-place : Place file past sheet is_item 480 s.item (standing Ascii file past).item
  unfolding standing
  item-place = record { fits = refl; slot = o.item_slot; none = λ q. rw q; front = o.item }

  header-place : Place file past sheet (λ t. eqb t 20) 320 s.header (standing Ascii file past).header
  unfolding standing
  header-place = record { fits = refl; slot = o.header_slot; none = λ q. rw q; front = o.header }

  heading-place : Place file past sheet (λ t. eqb t 10) 160 s.heading (standing Ascii file past).heading
  unfolding standing
  heading-place = record { fits = refl; slot = o.heading_slot; none = λ q. rw q; front = o.heading }

  start-place : Place file past sheet (λ _. false) 0 0 0
  start-place = record { fits = refl; slot = by (has_come (λ _. false) past); none = λ _. refl; front = o.start }
    where
      by : (b : Bool) → ◌≡◌ {A = ℕ} 0 (cond b 0 0)
      by true = refl
      by false = refl

module _ {file : List ℕ} {past : List Entry} {sheet : List ℕ} {s : Standing} (o : OnSheet file past sheet s) (t : ℕ) (body fixed rest : List ℕ)
    (e : body ≡ fixed ++ rest) (long : length fixed ≡ (layout_of t).fixed_length) (c : is_carried t ≡ true)
    (may : may_follow s.inside s.last s.present t ≡ true) where
  short : length fixed ≤ 139
  short = omega (arith, carried-wide t c)

  -- the record itself
  own : AlikeAt Same (file ++ framed (body ∷ [])) (sets sheet (slot_of t + 4) fixed) (length file) (slot_of t) (width_of t)
  own =
      let all : AlikeAt Same (file ++ framed (body ∷ [])) (sets sheet (slot_of t + 4) fixed) (length file) (slot_of t) (length fixed) =
      record { same = part-stored sheet (slot_of t + 4) fixed (omega (arith, short, low-slot t c, o.long)) ∙ sym (record-begins file body fixed rest e) } in
      narrower (law Ascii) all (width_of t) (omega (arith, wide t))

  own-front : 80 ≤ width_of t → SameFront (sets sheet (slot_of t + 4) fixed) (slot_of t) (file ++ framed (body ∷ [])) (length file)
  own-front h = (narrower (law Ascii) own 80 h).same

  -- a place stays where the record is not of its sort, and is the record's own else
  module _ {sort : ℕ → Bool} {k p at : ℕ} (place : Place file past sheet sort k p at) where
    stays-behind : sort t ≡ false → eqb t 1 ≡ false → SameFront (sets sheet (slot_of t + 4) fixed) p (file ++ framed (body ∷ [])) at
    stays-behind q z =
        let f = place.front (behind past o t may z) in
        let slot = rw (sym place.slot) at (other_fits_lem sort k place.fits t c q z (has_come sort past)) in
        slot_kept sheet fixed p (slot_of t) short slot.1 ∙ f
        ∙ sym (part-first (at + 4) 80 file (framed (body ∷ [])) (front-within sheet file p at (omega (arith, slot.0, o.long)) f))

    stays : sort t ≡ false → SameFront (sets sheet (slot_of t + 4) fixed) p (file ++ framed (body ∷ [])) at
    stays q = by (eqb t 1) refl
      where
        by : (b : Bool) → eqb t 1 ≡ b → SameFront (sets sheet (slot_of t + 4) fixed) p (file ++ framed (body ∷ [])) at
        by true z =
            let start = o.begun (only-first s.inside s.last s.present t may z) in
            let here : p ≡ slot_of t =
            place.slot ∙ ap (λ (rs : List Entry). cond (has_come sort rs) k 0) start.0 ∙ sym (ap slot_of (eqb-true t 1 z)) in
            let there : at ≡ length file = place.none start.0 ∙ sym start.1 in
            rw (here, there) (own-front (first_fits sort k place.fits t c q z))
        by false z = stays-behind q z

    moves : SameFront (sets sheet (slot_of t + 4) fixed) (cond (sort t) (slot_of t) p) (file ++ framed (body ∷ [])) (cond (sort t) (length file) at)
    moves = by (sort t) refl
      where
        by : (b : Bool) → sort t ≡ b
            → SameFront (sets sheet (slot_of t + 4) fixed) (cond b (slot_of t) p) (file ++ framed (body ∷ [])) (cond b (length file) at)
        by true q = own-front (newest-fits sort k place.fits t c q).1
        by false q = stays q

    slot-moves : cond (sort t) (slot_of t) p ≡ cond (sort t || has_come sort past) k 0
    slot-moves = by (sort t) refl
      where
        by : (b : Bool) → sort t ≡ b → cond b (slot_of t) p ≡ cond (b || has_come sort past) k 0
        by true q = (newest-fits sort k place.fits t c q).0
        by false q = place.slot

  over : t ≡ 52
      → Compared Same (file ++ framed (body ∷ [])) (sets sheet (slot_of t + 4) fixed) (capped_figures (standing Ascii file past)) s.item s.header s.heading
  over q = record {
    item = record { same = stays (item-place o) (ap is_item q) };
    header = record { same = stays (header-place o) (ap (λ (n : ℕ). eqb n 20) q) };
    heading = record { same = stays (heading-place o) (ap (λ (n : ℕ). eqb n 10) q) };
  }

  pub sheet-agrees : agreement Ascii (sets sheet (slot_of t + 4) fixed) s (slot_of t) t
      ≡ agreement Ascii (file ++ framed (body ∷ [])) (standing Ascii file past) (length file) t
  sheet-agrees =
      ap (λ (u : Standing). agreement Ascii (sets sheet (slot_of t + 4) fixed) u (slot_of t) t) (as-placed o)
      ∙ agreement-placed (law Ascii) (capped_figures (standing Ascii file past)) s.item s.header s.heading t own over
      ∙ agreement-capped Ascii (standing Ascii file past) (file ++ framed (body ∷ [])) (length file) t

  figures-move : unplaced (capped_figures (onward Ascii (sets sheet (slot_of t + 4) fixed) s t (slot_of t)))
      ≡ unplaced (capped_figures (standing Ascii (file ++ framed (body ∷ [])) (entry t (length file) (length body) ∷ past)))
  figures-move =
      let f : List ℕ = file ++ framed (body ∷ []) in
      let before = standing Ascii file past in
      ap (λ (u : Standing). unplaced (capped_figures (onward Ascii (sets sheet (slot_of t + 4) fixed) u t (slot_of t)))) (as-placed o)
      ∙ ap (λ (u : Standing). unplaced (capped_figures u)) (onward-alike (law Ascii) (capped_figures before) s.item s.header s.heading t own)
      ∙ ap unplaced (onward-capped Ascii f before t (length file))
      ∙ ap (λ (u : Standing). unplaced (capped_figures (onward Ascii f u t (length file)))) (sym (standing-same Ascii file f past (past_same file (framed (body ∷ [])) past o.within)))
      ∙ ap (λ (u : Standing). unplaced (capped_figures u)) (sym (standing-onward Ascii f past t (length file) (length body)))

  pub sheet-moves : OnSheet (file ++ framed (body ∷ [])) (entry t (length file) (length body) ∷ past) (sets sheet (slot_of t + 4) fixed)
      (capped_figures (onward Ascii (sets sheet (slot_of t + 4) fixed) s t (slot_of t)))
  unfolding standing onward
  sheet-moves = record {
    long = length-sets sheet (slot_of t + 4) fixed ∙ o.long;
    figures = figures-move;
    item = λ _. moves (item-place o);
    header = λ _. moves (header-place o);
    heading = λ _. moves (heading-place o);
    start = λ _. stays (start-place o) refl;
    item_slot = slot-moves (item-place o);
    header_slot = slot-moves (header-place o);
    heading_slot = slot-moves (heading-place o);
    within = (
      omega (arith, record-long file body, ap length e, length-append fixed rest),
      within_more past (omega (arith, record-long file body)) o.within,
    );
    begun = λ q. absurd (no_zero t c q);
  }
