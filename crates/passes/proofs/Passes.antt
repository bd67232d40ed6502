-- What holds at the head of each pass's loop, and that a turn keeps it. Assumes nothing.
use Prim.Native.Nat.{ℕ, ◌+◌, ◌-◌, ◌*◌, ◌≤◌, ◌<◌}
use native.Mathlib.Nat.{zero-add}
use native.Mathlib.Omega.{arith}
use mathlib.Core.Path.{◌≡◌, refl, sym, ap, ◌∙◌, subst}
use mathlib.Core.Bool.{Bool, true, false, ◌&&◌, cond}
use mathlib.Core.List.{List, [], ◌∷◌, ◌++◌}
use borrow.Author.Tests.{leb-true}
use lib.Dec.{leb, eqb}
use lib.ListN.{length, drop, length-append}
use lib.Seq.{sets, length-sets}
use Rattle.text.specs.CharacterSet.{set_of}
use Rattle.text.specs.declared.character_set.CharacterSet.{CharacterSet}
use Rattle.frame.specs.Frames.{part, frame_at}
use Rattle.frame.specs.Frames.{Cut, Whole}
use Rattle.frame.proofs.Laws.{whole-within, whole-start}
use Rattle.judge.specs.Alone.{type_of}
use Rattle.standing.specs.History.{Entry, entry}
use Rattle.standing.specs.Standing.{standing, onward, capped_figures, Roomy}
use Rattle.standing.specs.declared.Standing.{Standing}
use Rattle.standing.proofs.Laws.{standing-records, figures-capped, moved_on, roomy}
use Rattle.passes.specs.declared.Fault.{Fault}
use Rattle.passes.specs.declared.Fault.TheVariants.{Size, Open}
use Rattle.passes.specs.Answers.{Step}
use Rattle.passes.specs.Answers.{Stop, On}
use Rattle.passes.specs.declared.Totals.{Totals}
use Rattle.passes.specs.Answers.{Answer}
use Rattle.passes.specs.Answers.{Accepted, Refused}
use Rattle.passes.specs.Rows.{row_of, rows_from, rows_of}
use Rattle.passes.specs.Reading.{totals_of, step_of, ended_with, run, surveyed, Counted}
use Rattle.passes.proofs.Capped.{ended-capped, row-capped, step-capped}
use Rattle.passes.proofs.Laws.{run_end, run-stop, run_on, rows_end, rows_cut, rows_on, framed, splice, splice-none, splice-more}

-- both passes: the records passed, where the loop is, and how many records may still come
pub record Place (set : CharacterSet) (file : List ℕ) (at : ℕ) (s : Standing) : Type 0 where
  pub past : List Entry
  pub fuel : ℕ
  pub within : at ≤ length file
  pub limit : length file ≤ 268_435_456
  pub few : length past ≤ at
  pub enough : length file ≤ at + fuel
  pub stands : s ≡ capped_figures (standing set file past)

pub place-roomy : (set : CharacterSet) (file : List ℕ) (at : ℕ) (s : Standing) → Place set file at s → Roomy s
place-roomy set file at s p = subst Roomy (sym p.stands) (roomy set file p.past (omega (arith, p.few, p.within, p.limit)))

pub place-records : (set : CharacterSet) (file : List ℕ) (at : ℕ) (s : Standing) (p : Place set file at s) → s.records.0 ≡ length p.past
place-records set file at s p = ap (λ (u : Standing). u.records.0) p.stands ∙ standing-records set file p.past

-- sums that stop have stopped already
pub place-stopped : (set : CharacterSet) (file : List ℕ) (at : ℕ) (s : Standing) → Place set file at s → capped_figures s ≡ s
place-stopped set file at s p = figures-capped s (standing set file p.past) p.stands

-- what `standing::moved` asks for, and what it gives for a record of type t at an offset
pub place-moves : (set : CharacterSet) (file : List ℕ) (at : ℕ) (s : Standing) → Place set file at s → Roomy s × (capped_figures s ≡ s)
place-moves set file at s p = (place-roomy set file at s p, place-stopped set file at s p)

abbrev pub Moves : CharacterSet → List ℕ → Standing → ℕ → ℕ → Standing → Type 0
Moves set file s t at r = r ≡ capped_figures (onward set file s t at)

pub moves-stopped : (set : CharacterSet) (file : List ℕ) (at : ℕ) (s : Standing) (t : ℕ) (r : Standing) → Moves set file s t at r → capped_figures r ≡ r
moves-stopped set file at s t r m = figures-capped r (onward set file s t at) m

pub place-first : (set : CharacterSet) (file : List ℕ) (s : Standing) → length file ≤ 268_435_456 → s ≡ capped_figures (standing set file []) → Place set file 0 s
place-first set file s h e =
    record {
      past = [];
      fuel = length file;
      within = omega arith;
      limit = h;
      few = omega arith;
      enough = omega arith;
      stands = e;
    }

pub place-on : (set : CharacterSet) (file : List ℕ) (at : ℕ) (s : Standing) (p : Place set file at s) (t size : ℕ) (r : Standing) → at < length file
    → at + 4 + size ≤ length file → Moves set file s t at r → Place set file (at + 4 + size) r
place-on set file at s p t size r h l m =
    record {
      past = entry t at size ∷ p.past;
      fuel = p.fuel - 1;
      within = l;
      limit = p.limit;
      few = omega (arith, p.few);
      enough = omega (arith, p.enough);
      stands = moved_on set file p.past s r t at size p.stands m;
    }

-- the first pass: the answer from here is the whole answer, and each record so far has its row
pub record Survey (set : CharacterSet) (file : List ℕ) (at : ℕ) (s : Standing) : Type 0 where
  pub place : Place set file at s
  pub same : run set (length file) file 0 [] ≡ run set place.fuel file at place.past
  pub count : length (rows_of file) ≡ 7 * length place.past + length (rows_from set place.fuel file at place.past)

pub survey-first : (set : CharacterSet) (file : List ℕ) (s : Standing) → set ≡ set_of file → length file ≤ 268_435_456
    → s ≡ capped_figures (standing set file []) → Survey set file 0 s
unfolding place-first
survey-first set file s q h e =
    let rows : length (rows_from set (length file) file 0 []) ≡ length (rows_of file) = rw q in
    record { place = place-first set file s h e; same = refl; count = omega (arith, rows) }

module _ (set : CharacterSet) (file : List ℕ) (at : ℕ) (s : Standing) (v : Survey set file at s) where
  left : at < length file → 0 < v.place.fuel
  left h = omega (arith, v.place.enough)

  step-here : {x : Step} → step_of set file s at ≡ x → step_of set file (standing set file v.place.past) at ≡ x
  step-here {x} e =
      sym (step-capped set (standing set file v.place.past) file at) ∙ subst (λ (u : Standing). step_of set file u at ≡ x) v.place.stands e

  pub survey-stop : at < length file → (fault : Fault) → step_of set file s at ≡ Stop fault
      → run set (length file) file 0 [] ≡ Refused fault (s.records.0 + 1) at
  survey-stop h fault e =
      v.same
      ∙ run-stop set file at v.place.past v.place.fuel fault h (left h) (step-here e)
      ∙ ap (λ (n : ℕ). Refused fault (n + 1) at) (sym (place-records set file at s v.place))

  pub survey-end : length file ≤ at → run set (length file) file 0 [] ≡ ended_with s at
  survey-end h =
      v.same
      ∙ run_end set file at v.place.past v.place.fuel h
      ∙ sym (ended-capped set (standing set file v.place.past) at)
      ∙ ap (λ (u : Standing). ended_with u at) (sym v.place.stands)

  counted_pick : (b : Bool) → length (rows_of file) ≡ 7 * s.records.0 → Counted file (cond b (Accepted (totals_of s)) (Refused Open (s.records.0 + 1) at))
  counted_pick true h = h
  counted_pick false h = tt

  pub counted-end : length file ≤ at → Counted file (ended_with s at)
  unfolding ended_with
  counted-end h =
      let none = ap length (rows_end set file at v.place.past v.place.fuel h) in
      counted_pick (eqb s.last 99) (omega (arith, v.count, place-records set file at s v.place))

  pub survey-on : at < length file → (t size : ℕ) (r : Standing) → step_of set file s at ≡ On t size → Moves set file s t at r → Survey set file (at + 4 + size) r
  unfolding place-on
  survey-on h t size r e m =
      let past = v.place.past in
      let fuel = v.place.fuel in
      let f = framed set file s at t size e in
      let begins = whole-start file at f.start size f.whole in
      let fits = whole-within file at f.start size f.whole in
      let others = rows_from set (fuel - 1) file (f.start + size) (entry t at size ∷ past) in
      let row = row_of set file (standing set file (entry t at size ∷ past)) t at size in
      let rows : rows_from set fuel file at past ≡ row ++ others = rows_on set file at past fuel f.start size t h (left h) f.whole f.type in
      let long : length (rows_from set fuel file at past) ≡ 7 + length others = ap length rows ∙ length-append row others in
      let there : length others ≡ length (rows_from set (fuel - 1) file (at + 4 + size) (entry t at size ∷ past)) =
      ap (λ (n : ℕ). length (rows_from set (fuel - 1) file (n + size) (entry t at size ∷ past))) begins in
      record {
        place = place-on set file at s v.place t size r h (omega arith) m;
        same = v.same ∙ run_on set file at past fuel t size h (left h) (step-here e);
        count = omega (arith, v.count);
      }

-- a step that goes on stays within the file
pub on-within : (set : CharacterSet) (file : List ℕ) (s : Standing) (at t size : ℕ) → step_of set file s at ≡ On t size → at + 4 + size ≤ length file
on-within set file s at t size e =
    let f = framed set file s at t size e in
    omega (arith, whole-start file at f.start size f.whole, whole-within file at f.start size f.whole)

pub splice-first : (t r : List ℕ) → splice t 0 r ≡ r ++ drop (length r) t
splice-first t r = rw zero-add

-- the second pass: the rows so far, and those from here, are the whole table
pub record Fill (set : CharacterSet) (file table₀ : List ℕ) (at : ℕ) (s : Standing) (base : ℕ) (table : List ℕ) : Type 0 where
  pub place : Place set file at s
  pub long : length table ≡ length table₀
  pub room : base + length (rows_from set place.fuel file at place.past) ≤ length table
  pub same : splice table₀ 0 (rows_of file) ≡ splice table base (rows_from set place.fuel file at place.past)

pub fill-first : (set : CharacterSet) (file table : List ℕ) (s : Standing) → set ≡ set_of file → length file ≤ 268_435_456 → length (rows_of file) ≤ length table
    → s ≡ capped_figures (standing set file []) → Fill set file table 0 s 0 table
unfolding place-first
fill-first set file table s q h l e =
    let rows : rows_from set (length file) file 0 [] ≡ rows_of file = rw q in
    record {
      place = place-first set file s h e;
      long = refl;
      room = omega (arith, ap length rows);
      same = ap (splice table 0) (sym rows);
    }

module _ (set : CharacterSet) (file table₀ : List ℕ) (at : ℕ) (s : Standing) (base : ℕ) (table : List ℕ) (v : Fill set file table₀ at s base table) where
  more : at < length file → 0 < v.place.fuel
  more h = omega (arith, v.place.enough)

  pub fill-cut : at < length file → frame_at file at ≡ Cut → table ≡ rows_of file ++ drop (length (rows_of file)) table₀
  fill-cut h e =
      sym (v.same ∙ ap (splice table base) (rows_cut set file at v.place.past v.place.fuel e h) ∙ splice-none table base)
      ∙ splice-first table₀ (rows_of file)

  pub fill_end : length file ≤ at → table ≡ rows_of file ++ drop (length (rows_of file)) table₀
  fill_end h =
      sym (v.same ∙ ap (splice table base) (rows_end set file at v.place.past v.place.fuel h) ∙ splice-none table base)
      ∙ splice-first table₀ (rows_of file)

  module _ (h : at < length file) (start size t : ℕ) (e : frame_at file at ≡ Whole start size) (q : type_of set (part start size file) ≡ t) where
    others : List ℕ
    others = rows_from set (v.place.fuel - 1) file (start + size) (entry t at size ∷ v.place.past)

    row : List ℕ
    row = row_of set file (standing set file (entry t at size ∷ v.place.past)) t at size

    rows-here : rows_from set v.place.fuel file at v.place.past ≡ row ++ others
    unfolding row others
    rows-here = rows_on set file at v.place.past v.place.fuel start size t h (more h) e q

    pub fill-room : base + 7 ≤ length table
    unfolding row others
    fill-room = omega (arith, v.room, ap length rows-here ∙ length-append row others)

    pub fill_on : (r : Standing) (after : List ℕ) → Moves set file s t at r → after ≡ sets table base (row_of set file r t at size)
        → Fill set file table₀ (start + size) r (base + 7) after
    unfolding row others place-on
    fill_on r after m w =
        let stands = moved_on set file v.place.past s r t at size v.place.stands m in
        let begins = whole-start file at start size e in
        let fits = whole-within file at start size e in
        let whole = row-capped set (standing set file (entry t at size ∷ v.place.past)) file t at size in
        let written : after ≡ sets table base row =
        w ∙ ap (λ (u : Standing). sets table base (row_of set file u t at size)) stands ∙ ap (sets table base) whole in
        let long : length (rows_from set v.place.fuel file at v.place.past) ≡ 7 + length others = ap length rows-here ∙ length-append row others in
        let width = ap length written ∙ length-sets table base row in
        let there : others ≡ rows_from set (v.place.fuel - 1) file (at + 4 + size) (entry t at size ∷ v.place.past) =
        ap (λ (n : ℕ). rows_from set (v.place.fuel - 1) file (n + size) (entry t at size ∷ v.place.past)) begins in
        subst (λ (n : ℕ). Fill set file table₀ (n + size) r (base + 7) after) (sym begins)
        (record {
          place = place-on set file at s v.place t size r h (omega arith) m;
          long = width ∙ v.long;
          room = omega (arith, v.room, ap length there);
          same =
              v.same
              ∙ ap (splice table base) rows-here
              ∙ sym (splice-more table base row others (omega (arith, v.room)))
              ∙ ap (λ (x : List ℕ). splice x (base + 7) others) (sym written)
              ∙ ap (splice after (base + 7)) there;
        })

small-pick : (b : Bool) (a : Answer) (t : Totals) → cond b a (Refused Size 0 0) ≡ Accepted t → b ≡ true
small-pick true a t e = refl
small-pick false a t e = cc

both : (a b : Bool) → a && b ≡ true → b ≡ true
both true b e = e
both false b e = cc

pub accepted-small : (file : List ℕ) (t : Totals) → surveyed file ≡ Accepted t → length file ≤ 268_435_456
unfolding surveyed
accepted-small file t e = leb-true (length file) 268_435_456 (both (leb 1 (length file)) (leb (length file) 268_435_456) (small-pick _ _ t e))
