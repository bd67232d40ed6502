-- Rows set out one after the other: those that are left come to the same behind the longer file. Assumes nothing.
use Prim.Native.Nat.{ℕ, zero, suc, ◌+◌, ◌-◌, ◌/◌, ◌≤◌, ◌<◌}
use native.Mathlib.Omega.{arith}
use mathlib.Core.Bool.{Bool, true, false, ◌&&◌, and-eq-true_iff, cond}
use lib.Dec.{leb, eqb}
use borrow.Author.Tests.{leb-true, leb-false}
use borrow.Author.Rules.{part_to_end}
use mathlib.Core.List.{List, [], ◌∷◌, ◌++◌, append_assoc, append-nil}
use mathlib.Core.Path.{◌≡◌, refl, ap, sym, ◌∙◌, subst}
use lib.ListN.{length, get_or, take, drop, length-append, length-take, length-drop, drop_of_length-le}
use lib.Seq.{sets, length-sets, drop-drop, take-append-add, take-append_seam, drop-append-add, drop-append_seam}
use Rattle.text.specs.declared.character_set.CharacterSet.{CharacterSet}
use Rattle.text.specs.declared.character_set.CharacterSet.TheVariants.{Ascii}
use Rattle.frame.specs.Unless.{unless}
use Rattle.frame.specs.Frames.{part}
use Rattle.layout.specs.Packing.{Packed, own_in}
use Rattle.order.specs.MayFollow.{may_follow, is_carried}
use Rattle.standing.specs.History.{Entry}
use Rattle.standing.specs.Standing.{standing, onward, capped_figures, Roomy}
use Rattle.standing.specs.declared.Standing.{Standing}
use Rattle.standing.proofs.Laws.{figures-capped, roomy}
use Rattle.passes.specs.declared.Fault.{Fault}
use Rattle.passes.specs.declared.Fault.TheVariants.{Place}
use Rattle.passes.specs.declared.Totals.{Totals}
use Rattle.passes.specs.Answers.{Turn}
use Rattle.passes.specs.Answers.{Faulty, Good}
use Rattle.passes.specs.Reading.{totals_of}
use Rattle.file_as_records.specs.Framed.{framed}
use Rattle.alike.proofs.Figures.{placed}
use Rattle.draft.specs.Outcomes.{Written, Refused}
use Rattle.draft.specs.Owned.{Owned}
use Rattle.draft.specs.Values.{Values, layout_of, values_at, values_of_row, values_of_rows}
use Rattle.draft.specs.Completed.{addenda_behind, fixed_part, all_parts, all_sizes, completed}
use Rattle.draft.specs.Drafted.{body_of, file_with, past_with, completed_from, made, turn_of_row, after_turn, offset_of, rows_ended, answer_from}
use Rattle.draft.proofs.Shapes.{shaped_row, fixed-long, completed-long}
use Rattle.draft.proofs.Own.{carried-owned, carried-wide}
use Rattle.made_is_read.proofs.Record.{follows-carried}
use Rattle.made_is_read.proofs.Whole.{same_outcome, appended}
use Rattle.sheet.specs.Sheet.{slot_of, OnSheet}
use Rattle.sheet.proofs.Parts.{part-stored, record-long}
use Rattle.sheet.proofs.Slots.{low-slot}
use Rattle.sheet.proofs.Laws.{sheet-starts, sheet-follows, sheet-fixed, sheet-moves}
use Rattle.set_out.specs.declared.Progress.{Progress}
use Rattle.set_out.specs.SetOut.{values_in, Fits, Ready, Onward, RowsSetOut, ReadyOne}

-- the values of rows, one by one
module _ (set : CharacterSet) (text : List ℕ) where
  pub rows_none : (rows : List ℕ) → length rows < 10 → values_in set text rows ≡ []
  unfolding values_of_rows
  rows_none rows h = let e : length rows / 10 ≡ 0 = omega arith in rw e

  pub rows-one : (rows : List ℕ) → 10 ≤ length rows → values_in set text rows ≡ values_of_row set text rows ∷ values_in set text (drop 10 rows)
  unfolding values_of_rows
  rows-one rows h =
      let e : length rows / 10 ≡ suc (length (drop 10 rows) / 10) = omega (arith, length-drop 10 rows) in
      ap (λ (n : ℕ). values_of_rows set text n rows) e

  pub as_many : (n : ℕ) (rows : List ℕ) → length (values_of_rows set text n rows) ≡ n
  unfolding values_of_rows
  as_many zero rows = refl
  as_many (suc n) rows = ap suc (as_many n (drop 10 rows))

-- figures for which a sheet stands: they leave room for one record more, and their cents have stopped
module _ {file : List ℕ} {past : List Entry} {sheet : List ℕ} {s : Standing} (stands : OnSheet file past sheet s) where
  as-placed : s ≡ capped_figures (placed (standing Ascii file past) s.item s.header s.heading)
  as-placed = ap (λ (u : Standing). placed u s.item s.header s.heading) stands.figures

  pub figures-stay : capped_figures s ≡ s
  figures-stay = figures-capped s (placed (standing Ascii file past) s.item s.header s.heading) as-placed

  pub figures-roomy : length past ≤ 0x2000_0000_0000_0000 → Roomy s
  figures-roomy few =
      let r = roomy Ascii file past few in
      rw as-placed (record {
        records = r.records;
        letters = r.letters;
        bundles = r.bundles;
        opened = r.opened;
        items = r.items;
        ordinal = r.ordinal;
        whole = r.whole;
        letter = r.letter;
        bundle = r.bundle;
        micr = r.micr;
        addenda = r.addenda;
        bofd = r.bofd;
        endorser = r.endorser;
        shown = r.shown;
      })

-- a record that can be made out may follow, and so may those behind it be
module _ (v : Values) (vs : List Values) (file : List ℕ) (past : List Entry) {n : ℕ} {t : Totals} (w : answer_from (v ∷ vs) file past ≡ Written n t) where
  passed : (c : Bool) (fault : Fault) (next : Turn) {u : ℕ} → unless c (Faulty fault) next ≡ Good u → c ≡ true
  passed true fault next e = refl
  passed false fault next e = cc

  record Turned : Type 0 where
    good : ℕ
    is : turn_of_row v vs file past (standing Ascii file past) ≡ Good good
    others : answer_from vs (file_with v vs file past) (past_with v vs file past) ≡ Written n t

  turned : Turned
  unfolding answer_from
  turned = by (turn_of_row v vs file past (standing Ascii file past)) refl w
    where
      by : (turn : Turn) → turn_of_row v vs file past (standing Ascii file past) ≡ turn
          → after_turn file past turn (answer_from vs (file_with v vs file past) (past_with v vs file past)) ≡ Written n t → Turned
      by (Faulty fault) q e = let z : ◌≡◌ {A = ℕ} 0 1 = cc in absurd (omega arith)
      by (Good u) q e = record { good = u; is = q; others = e }

  pub good-follows : may_follow (standing Ascii file past).inside (standing Ascii file past).last (standing Ascii file past).present v.type ≡ true
  unfolding turn_of_row
  good-follows = passed (may_follow (standing Ascii file past).inside (standing Ascii file past).last (standing Ascii file past).present v.type) Place _ turned.is

  pub good_others : answer_from vs (file_with v vs file past) (past_with v vs file past) ≡ answer_from (v ∷ vs) file past
  good_others = turned.others ∙ sym w

-- what can be made out comes to as many bytes as the answer says
written-long : (vs : List Values) (file : List ℕ) (past : List Entry) {n : ℕ} {t : Totals} → answer_from vs file past ≡ Written n t
    → length (completed_from vs file past) ≡ n
unfolding completed_from answer_from rows_ended
written-long [] file past {n} {t} e = by (eqb (standing Ascii file past).last 99) e
  where
    by : (b : Bool) → cond b (Written (length file) (totals_of (standing Ascii file past))) (Refused Place (length past + 1) (offset_of (length file))) ≡ Written n t
        → length file ≡ n
    by true q = (same_outcome q).0
    by false q = cc
written-long (v ∷ vs) file past e = written-long vs (file_with v vs file past) (past_with v vs file past) (turned v vs file past e).others

-- the record of the first row, with others behind it
module _ (set : CharacterSet) (text rows out : List ℕ) {addenda : ℕ} {sheet : List ℕ} {s : Standing}
    (one : ReadyOne (values_of_row set text rows) addenda sheet s (length out)) where
  abbrev v : Values
  v = values_of_row set text rows

  abbrev vs : List Values
  vs = one.others

  abbrev b : Ready (v ∷ vs) sheet s (length out)
  b = one.ready

  abbrev t : ℕ
  t = get_or rows 0 0

  good : answer_from (v ∷ vs) b.file b.past ≡ Written b.fits.size b.fits.totals
  good = b.fits.written

  follows : may_follow s.inside s.last s.present t ≡ true
  unfolding values_of_row values_at
  follows = let f = sheet-follows b.stands in rw (f.0, f.1, f.2) (good-follows v vs b.file b.past good)

  carried : is_carried t ≡ true
  carried = follows-carried s.inside s.last s.present t follows

  pub row-owned : {layouts own : List ℕ} → Packed layouts → own ≡ own_in t (length layouts) layouts → Owned (layout_of t) own
  row-owned {layouts} packed e = rw e (carried-owned layouts t packed carried)

  pub row-roomy : Roomy s × (capped_figures s ≡ s)
  row-roomy = (figures-roomy b.stands (omega (arith, b.few)), figures-stay b.stands)

  pub slot-room : (slot_of t ≤ 640) × (slot_of t + 4 + (layout_of t).fixed_length ≤ length sheet)
  slot-room = let low = low-slot t carried in (low, omega (arith, carried-wide t carried, b.stands.long))

  longer : List ℕ
  longer = file_with v vs b.file b.past

  body : List ℕ
  body = body_of v vs b.file b.past

  body-long : length body ≡ (layout_of t).fixed_length + all_sizes v.parts
  unfolding values_of_row values_at body
  body-long = completed-long v (addenda_behind v.type vs) (standing Ascii b.file b.past) (shaped_row set text rows)

  -- there is room for it
  pub row_room : 4 + ((layout_of t).fixed_length + all_sizes v.parts) ≤ length out
  unfolding completed_from longer body
  row_room =
      let more = appended vs longer (past_with v vs b.file b.past) in
      omega (arith, written-long (v ∷ vs) b.file b.past good, ap length more.is, length-append longer more.rest, record-long b.file body, body-long, b.fits.within)

  -- it is completed on the sheet
  module _ {at : ℕ} (slot : at ≡ slot_of t) {n : ℕ} (sized : n ≡ (layout_of t).fixed_length) {sheet' : List ℕ}
      (stored : sheet' ≡ sets sheet (at + 4) (fixed_part v addenda s (layout_of t).lines v.fields)) where
    abbrev fixed : List ℕ
    fixed = fixed_part v addenda s (layout_of t).lines v.fields

    fixed-sized : length fixed ≡ (layout_of t).fixed_length
    unfolding values_of_row values_at
    fixed-sized = fixed-long v addenda s (shaped_row set text rows)

    pub row-end : at + 4 + n ≤ length sheet'
    row-end = omega (arith, slot, slot-room.1, ap length stored, length-sets sheet (at + 4) fixed)

    pub row-stored : part (at + 4) (at + 4 + n - (at + 4)) sheet' ≡ fixed
    row-stored =
        let size : at + 4 + n - (at + 4) ≡ length fixed = omega (arith, fixed-sized) in
        rw (size, stored) (part-stored sheet (at + 4) fixed (omega (arith, fixed-sized, slot, slot-room.1)))

    pub stored-room : (length (part (at + 4) (at + 4 + n - (at + 4)) sheet') ≡ (layout_of t).fixed_length)
        × (4 + (length (part (at + 4) (at + 4 + n - (at + 4)) sheet') + all_sizes v.parts) ≤ length out)
    stored-room = let long : _ ≡ _ = ap length row-stored ∙ fixed-sized in (long, omega (arith, long, row_room))

    body_is : body ≡ fixed ++ all_parts v.parts
    unfolding values_of_row values_at completed body
    body_is =
        rw (sym one.behind) (ap (λ (f : List ℕ). f ++ all_parts v.parts) (sym (sheet-fixed b.stands v addenda (layout_of t).lines v.fields)))

    -- and written
    pub row-onward : {bytes : ℕ} → bytes ≡ 4 + (length (part (at + 4) (at + 4 + n - (at + 4)) sheet') + all_sizes v.parts) → {out' : List ℕ}
        → out' ≡ framed ((part (at + 4) (at + 4 + n - (at + 4)) sheet' ++ all_parts v.parts) ∷ []) ++ drop bytes out
        → {s' : Standing} → s' ≡ capped_figures (onward Ascii sheet' s t at)
        → Onward (v ∷ vs) b.file b.past out vs sheet' s' bytes out'
    unfolding values_of_row values_at completed_from longer body
    row-onward {bytes} counts {out'} written {s'} moved =
        let same : part (at + 4) (at + 4 + n - (at + 4)) sheet' ++ all_parts v.parts ≡ body =
        ap (λ (g : List ℕ). g ++ all_parts v.parts) row-stored ∙ sym body_is in
        record {
          longer = longer;
          newer = past_with v vs b.file b.past;
          stands = rw (moved, stored, slot) (sheet-moves b.stands t body fixed (all_parts v.parts) body_is fixed-sized carried follows);
          many = omega arith;
          answer = good_others v vs b.file b.past good;
          whole = refl;
          long = omega (arith, record-long b.file body, body-long, stored-room.0);
          within = omega (arith, stored-room.1);
          is =
              ap (λ (o : List ℕ). b.file ++ o) (written ∙ ap (λ (g : List ℕ). framed (g ∷ []) ++ drop bytes out) same)
              ∙ sym (append_assoc b.file (framed (body ∷ [])) (drop bytes out));
        }

-- the same values, said otherwise
abbrev pub same-ready : {us vs : List Values} {sheet : List ℕ} {s : Standing} {room : ℕ} → us ≡ vs → Ready us sheet s room → Ready vs sheet s room
same-ready e b =
    record {
      file = b.file;
      past = b.past;
      stands = b.stands;
      few = omega (arith, b.few, ap length e);
      fits =
          record {
            size = b.fits.size;
            totals = b.fits.totals;
            written = ap (λ (us : List Values). answer_from us b.file b.past) (sym e) ∙ b.fits.written;
            within = b.fits.within;
          };
    }

-- the first of several rows, with those behind it
module _ (set : CharacterSet) (text rows out : List ℕ) (ten : 10 ≤ length rows) {sheet : List ℕ} {s : Standing} (b : Ready (values_in set text rows) sheet s (length out)) where
  abbrev behind : List Values
  behind = values_in set text (drop 10 rows)

  pub row-ready : {addenda : ℕ} → addenda ≡ addenda_behind (get_or rows 0 0) (values_of_rows set text (length rows / 10 - 1) (drop 10 rows))
      → ReadyOne (values_of_row set text rows) addenda sheet s (length out)
  unfolding values_of_row values_at
  row-ready counted =
      let fuel : length rows / 10 - 1 ≡ length (drop 10 rows) / 10 = omega (arith, length-drop 10 rows) in
      record {
        others = behind;
        behind = counted ∙ ap (λ (n : ℕ). addenda_behind (get_or rows 0 0) (values_of_rows set text n (drop 10 rows))) fuel;
        ready = same-ready (rows-one set text rows ten) b;
      }

  pub row-set-out : {addenda : ℕ} → addenda ≡ addenda_behind (get_or rows 0 0) (values_of_rows set text (length rows / 10 - 1) (drop 10 rows))
      → {r : Progress} {sheet' out' : List ℕ} → r.numbers ≡ 10
      → ((one : ReadyOne (values_of_row set text rows) addenda sheet s (length out))
      → Onward (values_of_row set text rows ∷ one.others) one.ready.file one.ready.past out one.others sheet' r.standing r.bytes out')
      → Onward (values_in set text rows) b.file b.past out (values_in set text (drop r.numbers rows)) sheet' r.standing r.bytes out'
  unfolding row-ready
  row-set-out counted {r} {sheet'} {out'} ten' done =
      subst (λ (us : List Values). Onward us b.file b.past out (values_in set text (drop r.numbers rows)) sheet' r.standing r.bytes out')
      (sym (rows-one set text rows ten))
      (subst (λ (n : ℕ). Onward (values_of_row set text rows ∷ behind) b.file b.past out (values_in set text (drop n rows)) sheet' r.standing r.bytes out') (sym ten')
      (done (row-ready counted)))

-- nothing yet
pub onward-none : {vs : List Values} {file : List ℕ} {past : List Entry} (out : List ℕ) {sheet : List ℕ} {s : Standing} → OnSheet file past sheet s
    → Onward vs file past out vs sheet s 0 out
onward-none {file = file} {past = past} out stands =
    record { longer = file; newer = past; stands = stands; many = refl; answer = refl; whole = refl; long = omega arith; within = omega arith; is = refl }

module _ {vs : List Values} {file : List ℕ} {past : List Entry} {out : List ℕ} {left : List Values} {sheet : List ℕ} {s : Standing} {bytes : ℕ} {after : List ℕ}
    (o : Onward vs file past out left sheet s bytes after) where
  pub same-long : length after ≡ length out
  same-long =
      omega (arith, ap length o.is, length-append file after, length-append o.longer (drop bytes out), length-drop bytes out, o.long, o.within)

  rest-kept : drop bytes after ≡ drop bytes out
  rest-kept =
      sym (drop-append-add file after bytes)
      ∙ ap (λ (n : ℕ). drop n (file ++ after)) (sym o.long)
      ∙ ap (drop (length o.longer)) o.is
      ∙ drop-append_seam o.longer (drop bytes out)

  in-front : file ++ take bytes after ≡ o.longer
  in-front =
      sym (take-append-add file after bytes)
      ∙ ap (λ (n : ℕ). take n (file ++ after)) (sym o.long)
      ∙ ap (take (length o.longer)) o.is
      ∙ take-append_seam o.longer (drop bytes out)

  -- the others are ready, for the rest of the buffer
  pub ready_on : length past + length vs ≤ 0x2000_0000_0000_0000 → Fits vs file past (length out) → Ready left sheet s (length (drop bytes after))
  ready_on few fits =
      record {
        file = o.longer;
        past = o.newer;
        stands = o.stands;
        few = omega (arith, o.many);
        fits =
            record {
              size = fits.size;
              totals = fits.totals;
              written = o.answer ∙ fits.written;
              within = omega (arith, fits.within, length-drop bytes after, same-long, o.long, o.within);
            };
      }

  pub bytes-within : bytes ≤ length after
  bytes-within = omega (arith, same-long, o.within)

  -- some more of them, in the rest of the buffer
  pub onward-more : {left' : List Values} {sheet' : List ℕ} {s' : Standing} {bytes' : ℕ} {rest : List ℕ}
      → Onward left o.longer o.newer (drop bytes after) left' sheet' s' bytes' rest → {after' : List ℕ} → after' ≡ take bytes after ++ rest
      → Onward vs file past out left' sheet' s' (bytes + bytes') after'
  onward-more {bytes' = bytes'} {rest = rest} p {after'} e =
      record {
        longer = p.longer;
        newer = p.newer;
        stands = p.stands;
        many = p.many ∙ o.many;
        answer = p.answer ∙ o.answer;
        whole = p.whole ∙ o.whole;
        long = omega (arith, p.long, o.long);
        within = omega (arith, p.within, length-drop bytes after, same-long, o.within);
        is =
            ap (λ (a : List ℕ). file ++ a) e
            ∙ sym (append_assoc file (take bytes after) rest)
            ∙ ap (λ (f : List ℕ). f ++ rest) in-front
            ∙ p.is
            ∙ ap (λ (r : List ℕ). p.longer ++ drop bytes' r) rest-kept
            ∙ ap (λ (r : List ℕ). p.longer ++ r) (drop-drop bytes' bytes out);
      }

-- where no row is left, the whole file stands in the buffer
pub onward-all : (vs : List Values) (out : List ℕ) {left : List Values} {sheet : List ℕ} {s : Standing} {bytes : ℕ} {after : List ℕ}
    → Onward vs [] [] out left sheet s bytes after → left ≡ [] → after ≡ made vs ++ drop (length (made vs)) out
unfolding made completed_from
onward-all vs out {bytes = bytes} o none =
    let whole : o.longer ≡ made vs = rw none at o.whole in
    let long : bytes ≡ length o.longer = omega (arith, o.long) in
    o.is ∙ ap (λ (n : ℕ). o.longer ++ drop n out) long ∙ ap (λ (f : List ℕ). f ++ drop (length f) out) whole

-- some more of them, in the rest of the buffer as the code takes it
module _ (out : List ℕ) {bytes : ℕ} {vs : List Values} {file : List ℕ} {past : List Entry} {out₀ : List ℕ} {left : List Values} {sheet : List ℕ} {s : Standing}
    (o : Onward vs file past out₀ left sheet s bytes out) (few : length past + length vs ≤ 0x2000_0000_0000_0000) (fits : Fits vs file past (length out₀)) where
  abbrev pub rest_of : List ℕ
  rest_of = take (length out - bytes) (drop bytes out)

  pub rest-ready : Ready left sheet s (length rest_of)
  rest-ready = rw (part_to_end out bytes) (ready_on o few fits)

  pub rest-on : {left' : List Values} {sheet' : List ℕ} {s' : Standing} {bytes' : ℕ} {rest : List ℕ}
      → ((b : Ready left sheet s (length rest_of)) → Onward left b.file b.past rest_of left' sheet' s' bytes' rest)
      → Onward vs file past out₀ left' sheet' s' (bytes + bytes') (take bytes out ++ (rest ++ drop (length out - bytes) (drop bytes out)))
  unfolding ready_on
  rest-on {rest = rest} done =
      let more = (rw (part_to_end out bytes) at done) (ready_on o few fits) in
      let none : drop (length out - bytes) (drop bytes out) ≡ [] = drop_of_length-le (drop bytes out) {i = length out - bytes} (omega (arith, length-drop bytes out)) in
      onward-more o more (ap (λ (x : List ℕ). take bytes out ++ (rest ++ x)) none ∙ ap (λ (x : List ℕ). take bytes out ++ x) (append-nil rest))

-- more rows of a draft, from a place of it on
module _ (set : CharacterSet) (text rows out : List ℕ) (at : ℕ) {bytes : ℕ} {vs : List Values} {file : List ℕ} {past : List Entry} {out₀ sheet : List ℕ} {s : Standing}
    (o : Onward vs file past out₀ (values_in set text (drop at rows)) sheet s bytes out)
    (few : length past + length vs ≤ 0x2000_0000_0000_0000) (fits : Fits vs file past (length out₀)) where
  pub rows-ready : Ready (values_in set text (take (length rows - at) (drop at rows))) sheet s (length (take (length out - bytes) (drop bytes out)))
  rows-ready = rw (part_to_end rows at) (rest-ready out o few fits)

  pub rows_on : {r : Progress} {sheet' rest : List ℕ}
      → RowsSetOut set text (take (length rows - at) (drop at rows)) sheet (take (length out - bytes) (drop bytes out)) s r sheet' rest
      → Onward vs file past out₀ (values_in set text (drop (at + r.numbers) rows)) sheet' r.standing (bytes + r.bytes)
      (take bytes out ++ (rest ++ drop (length out - bytes) (drop bytes out)))
  rows_on {r} done =
      rw (sym (drop-drop r.numbers at rows)) (rest-on out o few fits (rw (part_to_end rows at) at done).onward)

-- the rows of a bundle so far, of which the first is always set out
pub record Bundle (set : CharacterSet) (text rows sheet₀ out₀ : List ℕ) (s₀ : Standing) (sheet out : List ℕ) (s : Standing) (bytes at : ℕ) (goes : Bool) : Type 0 where
  pub within : at ≤ length rows
  pub begun : at < 10 → (at ≡ 0) × (goes ≡ true)
  pub onward : (b : Ready (values_in set text rows) sheet₀ s₀ (length out₀))
      → Onward (values_in set text rows) b.file b.past out₀ (values_in set text (drop at rows)) sheet s bytes out

module _ {set : CharacterSet} {text rows sheet₀ out₀ : List ℕ} {s₀ : Standing} where
  pub bundle-first : Bundle set text rows sheet₀ out₀ s₀ sheet₀ out₀ s₀ 0 0 true
  bundle-first = record { within = omega arith; begun = λ _. (refl, refl); onward = λ b. onward-none out₀ b.stands }

  module _ {sheet out : List ℕ} {s : Standing} {bytes at : ℕ} {goes : Bool} (u : Bundle set text rows sheet₀ out₀ s₀ sheet out s bytes at goes) where
    pub bundle-turn : goes && leb 10 (length rows - at) ≡ true → 10 ≤ length rows - at
    bundle-turn e = leb-true 10 (length rows - at) ((and-eq-true_iff goes (leb 10 (length rows - at))).0 e).1

    pub bundle-on : {r : Progress} {sheet' rest : List ℕ} (goes' : Bool)
        → RowsSetOut set text (take (length rows - at) (drop at rows)) sheet (take (length out - bytes) (drop bytes out)) s r sheet' rest
        → Bundle set text rows sheet₀ out₀ s₀ sheet' (take bytes out ++ (rest ++ drop (length out - bytes) (drop bytes out))) r.standing (bytes + r.bytes) (at + r.numbers) goes'
    bundle-on goes' done =
        record {
          within = omega (arith, u.within, done.within, length-take (length rows - at) (drop at rows), length-drop at rows);
          begun = λ h. absurd (omega (arith, done.some));
          onward = λ b. rows_on set text rows out at (u.onward b) b.few b.fits done;
        }

    pub bundle-some : 10 ≤ length rows → goes && leb 10 (length rows - at) ≡ false → 10 ≤ at
    bundle-some h e = by (leb 10 at) refl
      where
        by : (c : Bool) → leb 10 at ≡ c → 10 ≤ at
        by true q = leb-true 10 at q
        by false q =
            let first = u.begun (leb-false 10 at q) in
            absurd (omega (arith, first.0, leb-false 10 (length rows - at) (rw first.1 at e)))

-- a whole draft that can be made out
pub fits-room : {vs : List Values} {n : ℕ} {t : Totals} → answer_from vs [] [] ≡ Written n t → {room : ℕ} → n ≤ room → Fits vs [] [] room
fits-room {n = n} {t = t} e h = record { size = n; totals = t; written = e; within = omega arith }

-- the rows of a draft so far
pub record Draft (set : CharacterSet) (text rows out₀ : List ℕ) (out sheet : List ℕ) (s : Standing) (bytes at : ℕ) : Type 0 where
  pub within : at ≤ length rows
  pub few : length (values_in set text rows) ≤ 0x2000_0000_0000_0000
  pub onward : Onward (values_in set text rows) [] [] out₀ (values_in set text (drop at rows)) sheet s bytes out

module _ {set : CharacterSet} {text rows out₀ : List ℕ} where
  pub draft-first : length rows ≤ 0xFFFF_FFFF_FFFF_FFFF → {sheet : List ℕ} → length sheet ≡ 800 → {s : Standing} → s ≡ capped_figures (standing Ascii [] [])
      → Draft set text rows out₀ out₀ sheet s 0 0
  draft-first short {sheet} long {s} e =
      record {
        within = omega arith;
        few = omega (arith, as_many set text (length rows / 10) rows);
        onward = onward-none out₀ (sheet-starts sheet long s e);
      }

  module _ {out sheet : List ℕ} {s : Standing} {bytes at : ℕ} (u : Draft set text rows out₀ out sheet s bytes at) where
    pub draft-room : bytes ≤ length out
    draft-room = bytes-within u.onward

    pub draft-some : 10 ≤ length rows - at → 10 ≤ length (take (length rows - at) (drop at rows))
    draft-some h = omega (arith, length-take (length rows - at) (drop at rows), length-drop at rows)

    pub draft-ready : Fits (values_in set text rows) [] [] (length out₀)
        → Ready (values_in set text (take (length rows - at) (drop at rows))) sheet s (length (take (length out - bytes) (drop bytes out)))
    draft-ready fits = rows-ready set text rows out at u.onward (omega (arith, u.few)) fits

    -- the next of them, whichever way they were set out
    pub draft-on : Fits (values_in set text rows) [] [] (length out₀) → {r : Progress} {sheet' rest : List ℕ}
        → RowsSetOut set text (take (length rows - at) (drop at rows)) sheet (take (length out - bytes) (drop bytes out)) s r sheet' rest
        → {out'' : List ℕ} → out'' ≡ take bytes out ++ (rest ++ drop (length out - bytes) (drop bytes out)) → {sheet'' : List ℕ} → sheet'' ≡ sheet'
        → {r'' : Progress} → r'' ≡ r
        → Draft set text rows out₀ out'' sheet'' r''.standing (bytes + r''.bytes) (at + r''.numbers) × (10 ≤ r''.numbers)
    draft-on fits done e f g =
        rw (e, f, g) (
          record {
            within = omega (arith, u.within, done.within, length-take (length rows - at) (drop at rows), length-drop at rows);
            few = u.few;
            onward = rows_on set text rows out at u.onward (omega (arith, u.few)) fits done;
          },
          done.some,
        )

    pub draft-all : length rows - at < 10 → out ≡ made (values_in set text rows) ++ drop (length (made (values_in set text rows))) out₀
    draft-all h = onward-all (values_in set text rows) out₀ u.onward (rows_none set text (drop at rows) (omega (arith, length-drop at rows)))
