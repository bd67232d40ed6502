-- A good record, given as its values, is completed as itself, and nothing of it is unfit. Assumes nothing.
use Prim.Native.Nat.{ℕ, ◌+◌, ◌-◌, ◌≤◌}
use native.Mathlib.Nat.{zero-add}
use native.Mathlib.Omega.{arith}
use mathlib.Core.Bool.{Bool, true, false, ◌&&◌, ◌||◌, cond}
use mathlib.Core.Path.{◌≡◌, refl, sym, ap, ap₂, ◌∙◌}
use mathlib.Core.List.{List, [], ◌∷◌, ◌++◌, map, append-nil}
use lib.Dec.{leb, eqb}
use lib.ListN.{length, take, drop, take-append-drop}
use borrow.Author.Tests.{leb-true, eqb-true}
use Rattle.text.specs.declared.character_set.CharacterSet.TheVariants.{Ascii}
use Rattle.text.specs.Characters.{is_numeric}
use Rattle.text.specs.DataTypes.{every}
use Rattle.text.specs.Number.{number}
use Rattle.frame.specs.Frames.{part}
use Rattle.layout.specs.Layout.{Layout, sized_parts}
use Rattle.layout.specs.Layouts.{layouts}
use Rattle.layout.specs.Laid.{end_to_end}
use Rattle.judge.specs.Alone.{Sound, UnknownType}
use Rattle.judge.specs.Alone.{first_wrong, first_wrong_part, is_variable, stated_sizes, judged, alone, type_of, among_layouts, judged_as}
use Rattle.judge.proofs.Laws.{both_true, kept, length-not-sound, field-not-sound}
use Rattle.order.specs.MayFollow.{is_one_of, carried, is_carried}
use Rattle.standing.specs.Standing.{capped_figures}
use Rattle.file_as_records.specs.Framed.{Body}
use Rattle.file_as_records.proofs.Good.{GoodAll}
use Rattle.file_as_records.proofs.Held.{over}
use Rattle.arrangement.specs.Sound.{All}
use Rattle.draft.specs.Values.{layout_among, layout_of, values_at, values_of_body}
use Rattle.draft.specs.Completed.{addenda_behind, completed, first_unfit, first_unfit_part}
use Rattle.same_bytes.proofs.Addenda.{in_run, whole_run, check-states, return-states}
use Rattle.same_bytes.proofs.Lines.{Said, worked, numbered, lines-again, parts_again}
use Rattle.same_bytes.proofs.Stated.{values_as, Told, all_lines}

unknown-not-sound : UnknownType ≡ Sound → ⊥
unknown-not-sound e = let z : ◌≡◌ {A = ℕ} 0 1 = cc in omega arith

-- what holds of each kind holds of the kind that a sound record is of
module _ (P : ℕ → Layout → Type 0) (t : ℕ) (b : Body) where
  among : (ks : List Layout) → All (λ (k : Layout). P k.type_number k) ks → among_layouts Ascii ks t b ≡ Sound
      → P t (layout_among ks t) × (alone Ascii (layout_among ks t) b ≡ Sound)
  among [] all sound = absurd (unknown-not-sound sound)
  among (k ∷ ks) all sound = by (eqb t k.type_number) refl sound (among ks all.1)
    where
      by : (c : Bool) → eqb t k.type_number ≡ c → cond c (alone Ascii k b) (among_layouts Ascii ks t b) ≡ Sound
          → (among_layouts Ascii ks t b ≡ Sound → P t (layout_among ks t) × (alone Ascii (layout_among ks t) b ≡ Sound))
          → P t (cond c k (layout_among ks t)) × (alone Ascii (cond c k (layout_among ks t)) b ≡ Sound)
      by true e s others = (rw (eqb-true t k.type_number e) all.0, s)
      by false e s others = others s

-- computed of each kind: its lines lie end to end, and its parts are numbered
abbrev laid : Layout → Bool
laid k = end_to_end 1 1 k.fixed_length k.lines && numbered (sized_parts k)

abbrev all_laid : List Layout → Bool
all_laid [] = true
all_laid (k ∷ ks) = laid k && all_laid ks

each_laid : (ks : List Layout) → all_laid ks ≡ true → All (λ (k : Layout). laid k ≡ true) ks
each_laid [] e = tt
each_laid (k ∷ ks) e = let both = both_true (laid k) (all_laid ks) e in (both.0, each_laid ks both.1)

-- what a sound record is
record Right (k : Layout) (b : Body) : Type 0 where
  long : k.fixed_length ≤ length b
  fields : first_wrong Ascii k.lines b ≡ 0
  fills : length b ≡ k.fixed_length + stated_sizes Ascii (sized_parts k) b
  parts : first_wrong_part Ascii (sized_parts k) b (drop k.fixed_length b) ≡ 0

right : (k : Layout) (b : Body) → alone Ascii k b ≡ Sound → Right k b
unfolding judged
right k b sound =
    let long = kept (leb k.fixed_length (length b)) length-not-sound sound in
    let short = kept (is_variable (sized_parts k) || leb (length b) k.fixed_length) length-not-sound long.1 in
    let field = kept (eqb (first_wrong Ascii k.lines b) 0) (field-not-sound _) short.1 in
    let fills = kept (eqb (length b) (k.fixed_length + stated_sizes Ascii (sized_parts k) b)) length-not-sound field.1 in
    let parts = kept (eqb (first_wrong_part Ascii (sized_parts k) b (drop k.fixed_length b)) 0) (field-not-sound _) fills.1 in
    record {
      long = leb-true k.fixed_length (length b) long.0;
      fields = eqb-true _ 0 field.0;
      fills = eqb-true (length b) _ fills.0;
      parts = eqb-true _ 0 parts.0;
    }

pub type-told : (b : Body) → is_carried (type_of Ascii b) ≡ true → number Ascii (part 0 2 b) ≡ type_of Ascii b
unfolding type_of is_carried
type-told b e = cases (leb 2 (length b) && every (is_numeric Ascii) (take 2 b)) e
  where
    cases : (c : Bool) → is_one_of (cond c (number Ascii (take 2 b)) 0) carried ≡ true → number Ascii (take 2 b) ≡ cond c (number Ascii (take 2 b)) 0
    cases true e = refl
    cases false e = cc

-- a record of type t, completed behind those of past and with so many addenda behind it
pub record ItselfAs (t : ℕ) (past : List Body) (b : Body) (addenda : ℕ) : Type 0 where
  pub same : completed (values_as t b) addenda (over Ascii past) ≡ b
  pub fit : first_unfit (values_as t b) addenda (layout_of t).lines (values_as t b).fields ≡ 0
  pub fields : first_wrong Ascii (layout_of t).lines b ≡ 0
  pub parts : first_unfit_part (sized_parts (layout_of t)) (values_as t b).parts ≡ 0

module _ (t : ℕ) (past : List Body) (b : Body) (addenda : ℕ) (sound : judged_as Ascii t b ≡ Sound) (told : Told t past b addenda) where
  own-kind : laid (layout_of t) ≡ true
  unfolding judged_as layout_of
  own-kind = (among (λ n k. laid k ≡ true) t b layouts (each_laid layouts refl) sound).0

  own-right : Right (layout_of t) b
  unfolding judged_as layout_of
  own-right = right (layout_among layouts t) b (among (λ n k. laid k ≡ true) t b layouts (each_laid layouts refl) sound).1

  own-lines : All (Said (values_as t b) addenda (capped_figures (over Ascii past)) b) (worked (layout_of t).lines)
  unfolding judged_as layout_of
  own-lines =
      (among (λ n k. Told n past b addenda → All (Said (values_as n b) addenda (capped_figures (over Ascii past)) b) (worked k.lines)) t b layouts
      (all_lines past b addenda) sound).0 told

  pub itself-as : ItselfAs t past b addenda
  unfolding completed
  itself-as =
      let k = layout_of t in
      let r = own-right in
      let tests = both_true (end_to_end 1 1 k.fixed_length k.lines) (numbered (sized_parts k)) own-kind in
      let lines =
      lines-again (values_as t b) addenda (capped_figures (over Ascii past)) b k.lines 1 1 k.fixed_length (omega arith) (omega arith) r.long
      tests.0 r.fields own-lines in
      let parts = parts_again b (sized_parts k) (0 + k.fixed_length) (omega (arith, r.fills)) tests.1 (rw (zero-add k.fixed_length) r.parts) in
      let width : k.fixed_length + 1 - 1 ≡ k.fixed_length = omega arith in
      record {
        same = ap₂ ◌++◌ lines.same parts.same ∙ rw (width, zero-add k.fixed_length) (take-append-drop k.fixed_length b);
        fit = lines.fit;
        fields = r.fields;
        parts = parts.fit;
      }

-- a good record with those behind it, given as its values
pub record Itself (past : List Body) (b : Body) (bs : List Body) : Type 0 where
  pub same : completed (values_of_body Ascii b) (addenda_behind (type_of Ascii b) (map (values_of_body Ascii) bs)) (over Ascii past) ≡ b
  pub fit :
      first_unfit (values_of_body Ascii b) (addenda_behind (type_of Ascii b) (map (values_of_body Ascii) bs)) (layout_of (type_of Ascii b)).lines
      (values_of_body Ascii b).fields
      ≡ 0
  pub fields : first_wrong Ascii (layout_of (type_of Ascii b)).lines b ≡ 0
  pub parts : first_unfit_part (sized_parts (layout_of (type_of Ascii b))) (values_of_body Ascii b).parts ≡ 0

pub completed-itself : (past : List Body) (b : Body) (bs : List Body) → GoodAll Ascii past (b ∷ bs) → Itself past b bs
unfolding values_of_body values_at
completed-itself past b bs g =
    let addenda = addenda_behind (type_of Ascii b) (map (values_of_body Ascii) bs) in
    let run = whole_run Ascii (b ∷ past) bs g.rest in
    let counted : (item : ℕ) → type_of Ascii b ≡ item → addenda_behind item (map (values_of_body Ascii) bs ++ []) ≡ addenda =
    λ item e. ap₂ addenda_behind (sym e) (append-nil (map (values_of_body Ascii) bs)) in
    let told : Told (type_of Ascii b) past b addenda =
    record {
      type = type-told b g.first.carried;
      of-check = λ e. check-states [] past b bs run.0 (ap (in_run 25) run.1) e ∙ counted 25 e;
      of-return = λ e. return-states [] past b bs run.0 (ap (in_run 31) run.1) e ∙ counted 31 e;
      linked = g.first.linked;
      totalled = g.first.totalled;
    } in
    let own = itself-as (type_of Ascii b) past b addenda g.first.alone told in
    record { same = own.same; fit = own.fit; fields = own.fields; parts = own.parts }
