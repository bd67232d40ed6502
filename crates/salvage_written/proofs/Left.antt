-- The writer goes on over all that is left of a torn file: kept headers, their sound runs and new controls. Assumes nothing.
use Prim.Native.Nat.{ℕ, ◌≤◌}
use native.Mathlib.Omega.{arith}
use mathlib.Core.Bool.{Bool, true, false, ◌&&◌, ◌||◌, not, cond}
use mathlib.Core.Option.{Option, none, some}
use mathlib.Core.Path.{◌≡◌, refl, sym, ap, ap₂, ◌∙◌, subst}
use mathlib.Core.List.{List, [], ◌∷◌, ◌++◌, map, append_assoc, append-nil}
use lib.Dec.{eqb}
use borrow.Author.Tests.{le-leb, ne_eqb}
use Rattle.text.specs.declared.character_set.CharacterSet.{CharacterSet}
use Rattle.text.specs.declared.character_set.CharacterSet.TheVariants.{Ascii}
use Rattle.layout.specs.Layouts.{cash_letter_control, file_control}
use Rattle.judge.specs.Alone.{Sound}
use Rattle.judge.specs.Alone.{type_of, judged_as}
use Rattle.order.specs.MayFollow.{is_one_of, follows, may_follow, is_carried}
use Rattle.order.proofs.Laws.{among}
use Rattle.agree.specs.Links.{addenda_kept, annex_b, numbered_on, link_fault}
use Rattle.passes.specs.declared.Fault.{Fault}
use Rattle.file_as_records.specs.Framed.{Body}
use Rattle.file_as_records.proofs.Figures.{last_in, inside_in, present_in, holder_in, opened_in, addenda_in, shown_in, stated_in, indicator_in}
use Rattle.file_as_records.proofs.Good.{GoodAs, Good}
use Rattle.file_as_records.proofs.Held.{over}
use Rattle.file_as_records.proofs.TotalsByName.{not-totalled}
use Rattle.file_as_records.proofs.Tests.{both, refuted, not-both}
use Rattle.arrangement.specs.Sound.{All, indicator, N}
use Rattle.draft.specs.Values.{Values, values_of_body}
use Rattle.salvage_model.specs.Runs.{Group, run, loose, sound_alone, run_fault}
use Rattle.salvage_model.specs.Kept.{Torn, Section, letter, ending, stray, any_bundle, is_kept, Fate, kept, marked, out_of_place, run_fate, group_marks, groups_marks, control_marks, section_marks, sections_marks, sections_of, marks_of, kept_bodies, control_values, letter_values, sections_values, ending_of, salvaged_values, any_kept, is_anything}
use Rattle.salvage_model.specs.Promises.{copied}
use Rattle.salvage_written.proofs.Carried.{Base}
use Rattle.salvage_written.proofs.Run.{Plain}
use Rattle.salvage_written.proofs.ReadRun.{SoundAs, sound-as, base-header}
use Rattle.salvage_written.proofs.Copies.{sound-either}
use Rattle.salvage_written.proofs.Control.{new-90, new-99}
use Rattle.salvage_written.proofs.Going.{State, state-none, state-on, Going, end-going, body-going, control-going}
use Rattle.salvage_written.proofs.Groups.{GroupOk, SectionOk, all-sections-ok}
use Rattle.passes.specs.Answers as passes
use Rattle.salvage_written.proofs.Letters.{values-either, indicator-either, itself-plain, no-control, kept_append, dropped-marked, map-append, groups-go}

-- what stands before a cash letter, or before the 99
pub record Between (past : List Body) : Type 0 where
  pub outside : inside_in Ascii past ≡ false
  pub settled : stated_in Ascii past ≤ addenda_in Ascii past
  pub last : is_one_of (last_in Ascii past) (1 ∷ 90 ∷ []) ≡ true

-- a header, of the file or of a cash letter
module _ (k : ℕ) (past : List Body) (b : Body) (sound : SoundAs Ascii k b) where
  sound-here : judged_as Ascii k b ≡ Sound
  sound-here = ap (λ (t : ℕ). judged_as Ascii t b) (sym sound.type) ∙ sound.right

  as-typed : GoodAs Ascii k past b → Good Ascii past b
  as-typed g = subst (λ (t : ℕ). GoodAs Ascii t past b) (sym sound.type) g

good-10 : (past : List Body) (b : Body) → SoundAs Ascii 10 b → Between past → Good Ascii past b
unfolding is_carried may_follow follows addenda_kept annex_b
good-10 past b sound w =
    as-typed 10 past b sound
    (record {
      carried = refl;
      follows = rw (w.outside, among (λ t. follows false t 10) (last_in Ascii past) (1 ∷ 90 ∷ []) refl w.last);
      alone = sound-here 10 past b sound;
      linked =
          record {
            addenda = le-leb (stated_in Ascii past) (addenda_in Ascii past) w.settled;
            annex-b = refl;
            numbered = refl;
            view = refuted false refl;
          };
      totalled = not-totalled Ascii past b 10 refl refl refl;
    })

good-01 : (b : Body) → SoundAs Ascii 1 b → Good Ascii [] b
unfolding is_carried may_follow follows addenda_kept annex_b
good-01 b sound =
    as-typed 1 [] b sound
    (record {
      carried = refl;
      follows = refl;
      alone = sound-here 1 [] b sound;
      linked = record { addenda = refl; annex-b = refl; numbered = refl; view = refuted false refl };
      totalled = not-totalled Ascii [] b 1 refl refl refl;
    })

-- Annex B asks for a bundle at a 90, unless the letter is of type N
annex-90 : (i o h s : ℕ) (a : Bool) → eqb i 0x4E || a ≡ true → (a ≡ true → 1 ≤ o) → annex_b 90 i o h s ≡ true
unfolding annex_b
annex-90 i o h s a e f = by (eqb i 0x4E) e
  where
    by : (c : Bool) → c || a ≡ true → not (not c && eqb o 0) ≡ true
    by true e = refl
    by false e = let some = f e in rw (ne_eqb o 0 (λ q. omega arith))

link-90 : (past : List Body) → stated_in Ascii past ≤ addenda_in Ascii past
    → annex_b 90 (indicator_in Ascii past) (opened_in Ascii past) (holder_in Ascii past) (shown_in Ascii past) ≡ true → (file : List ℕ) (at : ℕ)
    → link_fault Ascii file (over Ascii past) 90 at ≡ 0
unfolding link_fault numbered_on addenda_kept
link-90 past settled annex file at = rw (le-leb (stated_in Ascii past) (addenda_in Ascii past) settled, annex)

link-99 : (past : List Body) → stated_in Ascii past ≤ addenda_in Ascii past → (file : List ℕ) (at : ℕ) → link_fault Ascii file (over Ascii past) 99 at ≡ 0
unfolding link_fault numbered_on addenda_kept annex_b
link-99 past settled file at = rw (le-leb (stated_in Ascii past) (addenda_in Ascii past) settled)

follows-90 : (header : Body) (past : List Body) → Base Ascii header past → may_follow (inside_in Ascii past) (last_in Ascii past) (present_in Ascii past) 90 ≡ true
unfolding may_follow follows
follows-90 header past b =
    rw (b.outside, among (λ t. follows false t 90) (last_in Ascii past) (10 ∷ 52 ∷ 54 ∷ 61 ∷ 70 ∷ []) refl b.ready)

follows-99 : (past : List Body) → Between past → last_in Ascii past ≡ 90 → may_follow (inside_in Ascii past) (last_in Ascii past) (present_in Ascii past) 99 ≡ true
unfolding may_follow follows
follows-99 past w e = rw (w.outside, e)

-- not one of these
not-item : (b : Body) (k j : ℕ) → SoundAs Ascii k b → (k ≡ j → ⊥) → type_of Ascii b ≡ j → ⊥
not-item b k j sound n e = n (sym sound.type ∙ e)

plain-header : (b : Body) (k : ℕ) → SoundAs Ascii k b → eqb k 90 ≡ false → eqb k 99 ≡ false → Plain Ascii b
plain-header b k sound e f = (ap (λ (t : ℕ). eqb t 90) sound.type ∙ e, ap (λ (t : ℕ). eqb t 99) sound.type ∙ f)

-- a kept cash letter
module _ (set : CharacterSet) (t : Torn) (is-kept : is_kept set t ≡ true) where
  kept-tests : (sound_alone set 10 t.header ≡ true) × (eqb (indicator set t.header) N || any_bundle set t.header t.groups ≡ true)
  unfolding is_kept
  kept-tests =
      both (sound_alone set 10 t.header) (eqb (indicator set t.header) N || any_bundle set t.header t.groups) is-kept

  letter-goes : All (GroupOk set) t.groups → (past : List Body) → State past → Between past → (ws : List Values) (ks : List Body)
      → ((past' : List Body) → State past' → Between past' → last_in Ascii past' ≡ 90 → Going past' ws ks)
      → Going past
      ((values_of_body set t.header
      ∷ (map (values_of_body set) (kept_bodies (groups_marks set t t.groups)) ++ (control_values set cash_letter_control t.control ∷ []))) ++ ws)
      (copied set t.header ∷ (map (copied set) (kept_bodies (groups_marks set t t.groups)) ++ ks))
  unfolding is_carried
  letter-goes ok past s w ws ks later =
      let alone = kept-tests.0 in
      let h = copied set t.header in
      let sound = sound-either set 10 t.header (sound-as set 10 t.header alone) in
      let good = good-10 past h sound w in
      let kb = kept_bodies (groups_marks set t t.groups) in
      let v = control_values set cash_letter_control t.control in
      let vs = map (values_of_body set) kb ++ (v ∷ ws) in
      let state = state-on past s h good in
      let base = base-header Ascii h past sound.type w.outside w.settled in
      let groups =
      groups-go set t is-kept alone t.groups ok (h ∷ past) state base (v ∷ ws) ks
      (λ past' s' base' more opens.
      let annex =
      annex-90 (indicator_in Ascii past') (opened_in Ascii past') (holder_in Ascii past') (shown_in Ascii past') (any_bundle set t.header t.groups)
      (ap (λ (i : ℕ). eqb i 0x4E || any_bundle set t.header t.groups) (base'.indicator ∙ indicator-either set t.header) ∙ kept-tests.1) opens in
      control-going past' s' 90 v (new-90 set t.control) ws (omega arith) refl refl (follows-90 h past' base') (link-90 past' base'.settled annex) ks
      (λ c type g st.
      later (c ∷ past') st (record { outside = rw type base'.outside; settled = rw type (omega (arith, base'.settled)); last = rw type }) type)) in
      let going =
      body-going past s h good vs (itself-plain past h vs good (not-item h 10 25 sound (λ e. omega arith)) (not-item h 10 31 sound (λ e. omega arith)))
      (map (copied set) kb ++ ks) (no-control h (plain-header h 10 sound refl refl)) groups in
      let shape : (values_of_body set t.header ∷ (map (values_of_body set) kb ++ (v ∷ []))) ++ ws ≡ values_of_body Ascii h ∷ vs =
      ap₂ (λ (x : Values) (xs : List Values). x ∷ xs) (sym (values-either set t.header)) (append_assoc (map (values_of_body set) kb) (v ∷ []) ws) in
      subst (λ (l : List Values). Going past l (h ∷ (map (copied set) kb ++ ks))) (sym shape) going

-- what is kept of a section
module _ (set : CharacterSet) (t : Torn) where
  control-kept : (c : Bool) (o : Option Body) → kept_bodies (control_marks c o) ≡ []
  control-kept c none = refl
  control-kept true (some b) = refl
  control-kept false (some b) = refl

  letter-kept : is_kept set t ≡ true → kept_bodies (section_marks set (letter t)) ≡ t.header ∷ kept_bodies (groups_marks set t t.groups)
  letter-kept k =
      rw k
      (ap (λ (l : List Body). t.header ∷ l)
      (kept_append (groups_marks set t t.groups) (control_marks true t.control)
      ∙ ap (λ (l : List Body). kept_bodies (groups_marks set t t.groups) ++ l) (control-kept true t.control)
      ∙ append-nil (kept_bodies (groups_marks set t t.groups))))

  groups-dropped : is_kept set t ≡ false → (gs : List Group) → kept_bodies (groups_marks set t gs) ≡ []
  groups-dropped k [] = refl
  groups-dropped k (loose bs ∷ gs) =
      kept_append (map (marked out_of_place) bs) (groups_marks set t gs) ∙ ap₂ ◌++◌ (dropped-marked 6 bs) (groups-dropped k gs)
  groups-dropped k (run bs ∷ gs) =
      kept_append (group_marks set t (run bs)) (groups_marks set t gs)
      ∙ ap₂ ◌++◌ (ap (λ (c : Bool). kept_bodies (map (marked (fate c (sound_alone set 10 t.header) (run_fault set t.header bs))) bs)) k ∙ none_kept (sound_alone set 10 t.header) (run_fault set t.header bs))
      (groups-dropped k gs)
    where
      fate : Bool → Bool → Option Fault → Fate
      fate c d o = cond d (run_fate c o) out_of_place

      none_kept : (d : Bool) (o : Option Fault) → kept_bodies (map (marked (fate false d o)) bs) ≡ []
      none_kept true none = dropped-marked 6 bs
      none_kept true (some fault) = dropped-marked (passes.number_of fault) bs
      none_kept false o = dropped-marked 6 bs

  letter-dropped : is_kept set t ≡ false → kept_bodies (section_marks set (letter t)) ≡ []
  letter-dropped k =
      ap (λ (c : Bool). kept_bodies (marked (cond c kept out_of_place) t.header ∷ (groups_marks set t t.groups ++ control_marks c t.control))) k
      ∙ kept_append (groups_marks set t t.groups) (control_marks false t.control)
      ∙ ap₂ ◌++◌ (groups-dropped k t.groups) (control-kept false t.control)

-- all sections
module _ (set : CharacterSet) where
  abbrev AfterSections : List Section → List Body → List Values → List Body → Type 0
  AfterSections ss past ws ks =
      (past' : List Body) → State past' → Between past' → (any_kept set ss ≡ true → last_in Ascii past' ≡ 90) → (last_in Ascii past ≡ 90 → last_in Ascii past' ≡ 90)
      → Going past' ws ks

  sections-go : (ss : List Section) → All (SectionOk set) ss → (past : List Body) → State past → Between past → (ws : List Values) (ks : List Body)
      → AfterSections ss past ws ks → Going past (sections_values set ss ++ ws) (map (copied set) (kept_bodies (sections_marks set ss)) ++ ks)
  sections-go [] ok past s w ws ks later = later past s w (λ e. absurd (not-both e)) (λ e. e)
  sections-go (ending b ∷ ss) ok past s w ws ks later = sections-go ss ok.1 past s w ws ks later
  sections-go (stray b ∷ ss) ok past s w ws ks later = sections-go ss ok.1 past s w ws ks later
  sections-go (letter t ∷ ss) ok past s w ws ks later =
      subst (λ (bs : List Body). Going past ((letter_values set t ++ sections_values set ss) ++ ws) (map (copied set) bs ++ ks))
      (sym (kept_append (section_marks set (letter t)) (sections_marks set ss)))
      (by (is_kept set t) refl (λ past' s' w' after. sections-go ss ok.1 past' s' w' ws ks after))
    where
      Rest : Type 0
      Rest =
          (past' : List Body) → State past' → Between past' → AfterSections ss past' ws ks
          → Going past' (sections_values set ss ++ ws) (map (copied set) (kept_bodies (sections_marks set ss)) ++ ks)

      by : (c : Bool) → is_kept set t ≡ c → Rest
          → Going past ((letter_values set t ++ sections_values set ss) ++ ws) (map (copied set) (kept_bodies (section_marks set (letter t)) ++ kept_bodies (sections_marks set ss)) ++ ks)
      by true k rest =
          let kb = kept_bodies (groups_marks set t t.groups) in
          let sv = sections_values set ss in
          let kss = kept_bodies (sections_marks set ss) in
          let own-values = values_of_body set t.header ∷ (map (values_of_body set) kb ++ (control_values set cash_letter_control t.control ∷ [])) in
          let values : (letter_values set t ++ sv) ++ ws ≡ own-values ++ (sv ++ ws) =
          ap (λ (c : Bool). (cond c own-values [] ++ sv) ++ ws) k ∙ append_assoc own-values sv ws in
          let keeps : map (copied set) (kept_bodies (section_marks set (letter t)) ++ kss) ++ ks
          ≡ copied set t.header ∷ (map (copied set) kb ++ (map (copied set) kss ++ ks)) =
          ap (λ (l : List Body). map (copied set) (l ++ kss) ++ ks) (letter-kept set t k)
          ∙ ap (λ (l : List Body). copied set t.header ∷ l)
          (ap (λ (l : List Body). l ++ ks) (map-append (copied set) kb kss) ∙ append_assoc (map (copied set) kb) (map (copied set) kss) ks) in
          let going =
          letter-goes set t k ok.0 past s w (sv ++ ws) (map (copied set) kss ++ ks)
          (λ past' s' w' last. rest past' s' w' (λ past'' s'' w'' any on. later past'' s'' w'' (λ e. on last) (λ e. on last))) in
          subst (λ (vs : List Values). Going past vs (map (copied set) (kept_bodies (section_marks set (letter t)) ++ kss) ++ ks)) (sym values)
          (subst (λ (bs : List Body). Going past (own-values ++ (sv ++ ws)) bs) (sym keeps) going)
      by false k rest =
          let sv = sections_values set ss in
          let kss = kept_bodies (sections_marks set ss) in
          let kb = kept_bodies (groups_marks set t t.groups) in
          let own-values = values_of_body set t.header ∷ (map (values_of_body set) kb ++ (control_values set cash_letter_control t.control ∷ [])) in
          let values : (letter_values set t ++ sv) ++ ws ≡ sv ++ ws = ap (λ (c : Bool). (cond c own-values [] ++ sv) ++ ws) k in
          let keeps : map (copied set) (kept_bodies (section_marks set (letter t)) ++ kss) ++ ks ≡ map (copied set) kss ++ ks =
          ap (λ (l : List Body). map (copied set) (l ++ kss) ++ ks) (letter-dropped set t k) in
          let going = rest past s w (λ past'' s'' w'' any on. later past'' s'' w'' (λ e. any (sym (ap (λ (c : Bool). c || any_kept set ss) k) ∙ e)) on) in
          subst (λ (vs : List Values). Going past vs (map (copied set) (kept_bodies (section_marks set (letter t)) ++ kss) ++ ks)) (sym values)
          (subst (λ (bs : List Body). Going past (sv ++ ws) bs) (sym keeps) going)

  -- and all that is left of the records walked
  pub whole-goes : (bs : List Body) → is_anything set bs ≡ true → Going [] (salvaged_values set bs) (map (copied set) (kept_bodies (marks_of set bs)))
  unfolding is_anything salvaged_values marks_of is_carried
  whole-goes [] e = absurd (not-both e)
  whole-goes (b ∷ bs) e =
      let tests = both (sound_alone set 1 b) (any_kept set (sections_of set bs)) e in
      let sound = sound-either set 1 b (sound-as set 1 b tests.0) in
      let h = copied set b in
      let good = good-01 h sound in
      let ss = sections_of set bs in
      let v = control_values set file_control (ending_of ss) in
      let vs = sections_values set ss ++ (v ∷ []) in
      let state = state-on [] state-none h good in
      let type = sound.type in
      let behind : Between (h ∷ []) = record { outside = rw type; settled = rw type (omega arith); last = rw type } in
      let sections =
      sections-go ss (all-sections-ok set bs) (h ∷ []) state behind (v ∷ []) []
      (λ past' s' w' any on.
      control-going past' s' 99 v (new-99 set (ending_of ss)) [] (omega arith) refl refl (follows-99 past' w' (any tests.1)) (link-99 past' w'.settled) []
      (λ c t g st. end-going (c ∷ past') st t)) in
      let keeps = append-nil (map (copied set) (kept_bodies (sections_marks set ss))) in
      let rest : Going (h ∷ []) vs (map (copied set) (kept_bodies (sections_marks set ss))) = subst (λ (ks : List Body). Going (h ∷ []) vs ks) keeps sections in
      let going =
      body-going [] state-none h good vs (itself-plain [] h vs good (not-item h 1 25 sound (λ q. omega arith)) (not-item h 1 31 sound (λ q. omega arith)))
      (map (copied set) (kept_bodies (sections_marks set ss))) (no-control h (plain-header h 1 sound refl refl)) rest in
      subst (λ (x : Values). Going [] (x ∷ vs) (h ∷ map (copied set) (kept_bodies (sections_marks set ss)))) (values-either set b) going
