-- The writer goes on over a kept run, over a kept cash letter with its new control, and over all that is left. Assumes nothing.
use Prim.Native.Nat.{ℕ, ◌≤◌}
use native.Mathlib.Omega.{arith}
use mathlib.Core.Bool.{Bool, true, false, ◌&&◌, ◌||◌, not}
use mathlib.Core.Option.{Option, none, some}
use mathlib.Core.Path.{◌≡◌, refl, sym, ap, ap₂, ◌∙◌, subst}
use mathlib.Core.List.{List, [], ◌∷◌, ◌++◌, map, append_assoc}
use lib.Dec.{eqb}
use lib.ListN.{get_or}
use borrow.Author.Tests.{leb-true}
use Rattle.text.specs.declared.character_set.CharacterSet.{CharacterSet}
use Rattle.text.specs.declared.character_set.CharacterSet.TheVariants.{Ascii, Ebcdic}
use Rattle.text.specs.Capitals.{capital}
use Rattle.text.specs.DataTypes.{every}
use Rattle.layout.specs.Layouts.{cash_letter_header}
use Rattle.judge.specs.Alone.{type_of}
use Rattle.order.specs.MayFollow.{is_one_of}
use Rattle.order.proofs.Laws.{among}
use Rattle.ascii_copy.proofs.Fields.{get_d-alike}
use Rattle.ascii_copy.proofs.Records.{field-copied}
use Rattle.passes.specs.declared.Fault.{Fault}
use Rattle.file_as_records.specs.Framed.{Body, field_of}
use Rattle.file_as_records.proofs.Figures.{indicator_of, last_in, opened_in}
use Rattle.file_as_records.proofs.Good.{Good, onto}
use Rattle.file_as_records.proofs.Tests.{untrue, not-both}
use Rattle.arrangement.specs.Sound.{All, indicator}
use Rattle.draft.specs.Values.{Values, values_of_body}
use Rattle.draft.specs.Completed.{addenda_behind}
use Rattle.same_bytes.proofs.Copied.{values-copied}
use Rattle.same_bytes.proofs.Itself.{ItselfAs, type-told, itself-as}
use Rattle.same_bytes.proofs.Stated.{Told}
use Rattle.salvage_model.specs.Runs.{of, Group, run, loose, sound_alone, run_fault}
use Rattle.salvage_model.specs.Kept.{Torn, is_sound_bundle, any_bundle, is_kept, Fate, kept, renewed, dropped, Marked, marked, out_of_place, run_fate, group_marks, groups_marks, kept_bodies}
use Rattle.salvage_model.specs.Promises.{copied}
use Rattle.same_bytes.proofs.Addenda.{GoodRun, in_run, check-states, return-states}
use Rattle.salvage_written.proofs.Carried.{Base}
use Rattle.salvage_written.proofs.Run.{BundleRest, closes, goes, AllViews, IsRun, bundle, credit, Plain, run-plain, run-same, run-left, bundle-opened, last-run}
use Rattle.salvage_written.proofs.ReadRun.{SoundAs, sound-as, through-good, base-header}
use Rattle.salvage_written.proofs.Copies.{run-either, sound-either, type-either}
use Rattle.salvage_written.proofs.Going.{State, state-on, Going, body-going}
use Rattle.salvage_written.proofs.Groups.{GroupOk}

pub values-either : (set : CharacterSet) (b : Body) → values_of_body Ascii (copied set b) ≡ values_of_body set b
values-either Ascii b = refl
values-either Ebcdic b = values-copied b

all-values : (set : CharacterSet) (bs : List Body) → map (values_of_body Ascii) (map (copied set) bs) ≡ map (values_of_body set) bs
all-values set [] = refl
all-values set (b ∷ bs) = ap₂ (λ (v : Values) (vs : List Values). v ∷ vs) (values-either set b) (all-values set bs)

pub indicator-either : (set : CharacterSet) (b : Body) → indicator_of Ascii (copied set b) ≡ indicator set b
indicator-either Ascii b = refl
indicator-either Ebcdic b =
    ap (λ (xs : List ℕ). capital Ascii (get_or xs 0 0)) (field-copied b 42 1 (leb-true 43 139 refl)) ∙ get_d-alike (field_of cash_letter_header 8 b) 0

-- a good record of no addenda, given as its values, whatever stands behind it
pub itself-plain : (past : List Body) (b : Body) (vs : List Values) → Good Ascii past b → (type_of Ascii b ≡ 25 → ⊥) → (type_of Ascii b ≡ 31 → ⊥)
    → ItselfAs (type_of Ascii b) past b (addenda_behind (type_of Ascii b) vs)
itself-plain past b vs g no-25 no-31 =
    let told : Told (type_of Ascii b) past b (addenda_behind (type_of Ascii b) vs) =
    record {
      type = type-told b g.carried;
      of-check = λ e. absurd (no-25 e);
      of-return = λ e. absurd (no-31 e);
      linked = g.linked;
      totalled = g.totalled;
    } in
    itself-as (type_of Ascii b) past b (addenda_behind (type_of Ascii b) vs) g.alone told

pub no-control : (b : Body) → Plain Ascii b → of Ascii (90 ∷ 99 ∷ []) b ≡ false
no-control b p = rw (p.0, p.1)

-- a run
run-going : (bs past : List Body) → State past → GoodRun Ascii past bs → All (Plain Ascii) bs → in_run 25 (last_in Ascii (onto bs past)) ≡ false
    → in_run 31 (last_in Ascii (onto bs past)) ≡ false → (ws : List Values) (ks : List Body) → (State (onto bs past) → Going (onto bs past) ws ks)
    → Going past (map (values_of_body Ascii) bs ++ ws) (bs ++ ks)
run-going [] past s g plain c r ws ks later = later s
run-going (b ∷ bs) past s g plain c r ws ks later =
    let vs = map (values_of_body Ascii) bs ++ ws in
    let counted : (item : ℕ) → type_of Ascii b ≡ item → addenda_behind item vs ≡ addenda_behind (type_of Ascii b) vs =
    λ item e. ap (λ (t : ℕ). addenda_behind t vs) (sym e) in
    let told : Told (type_of Ascii b) past b (addenda_behind (type_of Ascii b) vs) =
    record {
      type = type-told b g.first.carried;
      of-check = λ e. check-states ws past b bs g.rest c e ∙ counted 25 e;
      of-return = λ e. return-states ws past b bs g.rest r e ∙ counted 31 e;
      linked = g.first.linked;
      totalled = g.first.totalled;
    } in
    let own = itself-as (type_of Ascii b) past b (addenda_behind (type_of Ascii b) vs) g.first.alone told in
    body-going past s b g.first vs own (bs ++ ks) (no-control b plain.0)
    (run-going bs (b ∷ past) (state-on past s b g.first) g.rest plain.1 c r ws ks later)

-- a run of either set, as its copy
rest-either : (set : CharacterSet) {bs : List Body} → BundleRest set bs → BundleRest Ascii (map (copied set) bs)
rest-either set (closes {b} e) = closes (type-either set b ∙ e)
rest-either set (goes {b} {bs} e r) =
    goes (ap (λ (t : ℕ). is_one_of t (10 ∷ 20 ∷ 70 ∷ 90 ∷ 99 ∷ [])) (type-either set b) ∙ e) (rest-either set r)

views-either : (set : CharacterSet) (bs : List Body) → AllViews set bs → AllViews Ascii (map (copied set) bs)
views-either set [] a = tt
views-either set (b ∷ bs) a = (ap (λ (t : ℕ). is_one_of t (50 ∷ 52 ∷ 54 ∷ [])) (type-either set b) ∙ a.0, views-either set bs a.1)

is-run-either : (set : CharacterSet) {bs : List Body} → IsRun set bs → IsRun Ascii (map (copied set) bs)
is-run-either set (bundle {b} {bs} e r) = bundle (type-either set b ∙ e) (rest-either set r)
is-run-either set (credit {b} {bs} e r) = credit (type-either set b ∙ e) (views-either set bs r)

-- what the marks keep
pub kept_append : (ms ns : List Marked) → kept_bodies (ms ++ ns) ≡ kept_bodies ms ++ kept_bodies ns
kept_append [] ns = refl
kept_append (m ∷ ms) ns = by m.fate m.body (kept_append ms ns)
  where
    by : (f : Fate) (b : Body) → kept_bodies (ms ++ ns) ≡ kept_bodies ms ++ kept_bodies ns
        → kept_bodies (marked f b ∷ (ms ++ ns)) ≡ kept_bodies (marked f b ∷ ms) ++ kept_bodies ns
    by kept b e = ap (λ (l : List Body). b ∷ l) e
    by renewed b e = e
    by (dropped n) b e = e

pub kept-marked : (bs : List Body) → kept_bodies (map (marked kept) bs) ≡ bs
kept-marked [] = refl
kept-marked (b ∷ bs) = ap (λ (l : List Body). b ∷ l) (kept-marked bs)

pub dropped-marked : (n : ℕ) (bs : List Body) → kept_bodies (map (marked (dropped n)) bs) ≡ []
dropped-marked n [] = refl
dropped-marked n (b ∷ bs) = dropped-marked n bs

pub map-append : {A B : Type 0} (f : A → B) (xs ys : List A) → map f (xs ++ ys) ≡ map f xs ++ map f ys
map-append f [] ys = refl
map-append f (x ∷ xs) ys = ap (λ (l : List _). f x ∷ l) (map-append f xs ys)

-- the sound runs under a kept header
module _ (set : CharacterSet) (t : Torn) (is-kept : is_kept set t ≡ true) (alone : sound_alone set 10 t.header ≡ true) where
  abbrev pub own : Body
  own = copied set t.header

  abbrev sound : SoundAs set 10 t.header
  sound = sound-as set 10 t.header alone

  -- what follows a number of groups
  abbrev pub After : List Body → Bool → List Values → List Body → Type 0
  After past any ws ks =
      (past' : List Body) → State past' → Base Ascii own past' → opened_in Ascii past ≤ opened_in Ascii past' → (any ≡ true → 1 ≤ opened_in Ascii past')
      → Going past' ws ks

  -- what is left of some records, and then others
  abbrev pub Goes : List Body → List Body → List Values → List Body → Type 0
  Goes past bs ws ks = Going past (map (values_of_body set) bs ++ ws) (map (copied set) bs ++ ks)

  more-goes : (past bs cs : List Body) (ws : List Values) (ks : List Body)
      → Going past (map (values_of_body set) bs ++ (map (values_of_body set) cs ++ ws)) (map (copied set) bs ++ (map (copied set) cs ++ ks)) → Goes past (bs ++ cs) ws ks
  more-goes past bs cs ws ks g =
      let vs : map (values_of_body set) (bs ++ cs) ++ ws ≡ map (values_of_body set) bs ++ (map (values_of_body set) cs ++ ws) =
      ap (λ (l : List Values). l ++ ws) (map-append (values_of_body set) bs cs) ∙ append_assoc (map (values_of_body set) bs) (map (values_of_body set) cs) ws in
      let es : map (copied set) (bs ++ cs) ++ ks ≡ map (copied set) bs ++ (map (copied set) cs ++ ks) =
      ap (λ (l : List Body). l ++ ks) (map-append (copied set) bs cs) ∙ append_assoc (map (copied set) bs) (map (copied set) cs) ks in
      subst (λ (l : List Values). Going past l (map (copied set) (bs ++ cs) ++ ks)) (sym vs)
      (subst (λ (l : List Body). Going past (map (values_of_body set) bs ++ (map (values_of_body set) cs ++ ws)) l) (sym es) g)

  -- one sound run
  run-goes : (bs past : List Body) → IsRun set bs → run_fault set t.header bs ≡ none → State past → Base Ascii own past → (ws : List Values) (ks : List Body)
      → After past (is_sound_bundle set t.header (run bs)) ws ks → Goes past bs ws ks
  run-goes bs past r f s base ws ks later =
      let cs = map (copied set) bs in
      let is = is-run-either set r in
      let header = sound-either set 10 t.header sound in
      let read = through-good Ascii own header cs (run-plain Ascii is) (run-either set t.header sound bs ∙ f) in
      let bare = base-header Ascii own [] header.type refl (omega arith) in
      let good = run-same Ascii own (own ∷ []) past bare base is read.good in
      let ends : last_in Ascii (onto cs past) ≡ 50 → ⊥ = λ e. read.ends (last-run Ascii (own ∷ []) past is ∙ e) in
      let left = run-left Ascii own past is base good ends in
      let closed : (item : ℕ) → every (λ t. not (in_run item t)) (10 ∷ 52 ∷ 54 ∷ 61 ∷ 70 ∷ []) ≡ true → in_run item (last_in Ascii (onto cs past)) ≡ false =
      λ item h. untrue (in_run item (last_in Ascii (onto cs past))) (among (λ t. not (in_run item t)) (last_in Ascii (onto cs past)) (10 ∷ 52 ∷ 54 ∷ 61 ∷ 70 ∷ []) h left.base.ready) in
      let going =
      run-going cs past s good (run-plain Ascii is) (closed 25 refl) (closed 31 refl) ws ks
      (λ s'. later (onto cs past) s' left.base left.opened (λ e. opens bs past r base good e)) in
      subst (λ (vs : List Values). Going past (vs ++ ws) (cs ++ ks)) (all-values set bs) going
    where
      opens : (bs past : List Body) → IsRun set bs → Base Ascii own past → GoodRun Ascii past (map (copied set) bs)
          → is_sound_bundle set t.header (run bs) ≡ true → 1 ≤ opened_in Ascii (onto (map (copied set) bs) past)
      opens bs past (bundle {b} {bs = cs} e r) base good h = bundle-opened Ascii own past (type-either set b ∙ e) (rest-either set r) base good
      opens bs past (credit {b} {bs = cs} e r) base good h = absurd (not-both (rw e at h))

  pub groups-go : (gs : List Group) → All (GroupOk set) gs → (past : List Body) → State past → Base Ascii own past → (ws : List Values) (ks : List Body)
      → After past (any_bundle set t.header gs) ws ks → Goes past (kept_bodies (groups_marks set t gs)) ws ks
  groups-go [] ok past s base ws ks later = later past s base (omega arith) (λ e. absurd (not-both e))
  groups-go (loose bs ∷ gs) ok past s base ws ks later =
      rw (kept_append (map (marked out_of_place) bs) (groups_marks set t gs), dropped-marked 6 bs) (groups-go gs ok.1 past s base ws ks later)
  groups-go (run bs ∷ gs) ok past s base ws ks later =
      rw (kept_append (group_marks set t (run bs)) (groups_marks set t gs), alone, is-kept)
      (by (run_fault set t.header bs) refl (λ past' s' base' after. groups-go gs ok.1 past' s' base' ws ks after))
    where
      Rest : Type 0
      Rest =
          (past' : List Body) → State past' → Base Ascii own past' → After past' (any_bundle set t.header gs) ws ks
          → Goes past' (kept_bodies (groups_marks set t gs)) ws ks

      or-so : (a b : Bool) (A : Type 0) → (a ≡ true → A) → (b ≡ true → A) → a || b ≡ true → A
      or-so true b A f g e = f refl
      or-so false b A f g e = g e

      by : (o : Option Fault) → run_fault set t.header bs ≡ o → Rest
          → Goes past (kept_bodies (map (marked (run_fate true o)) bs) ++ kept_bodies (groups_marks set t gs)) ws ks
      by none f rest =
          rw (kept-marked bs)
          (more-goes past bs (kept_bodies (groups_marks set t gs)) ws ks
          (run-goes bs past ok.0 f s base (map (values_of_body set) (kept_bodies (groups_marks set t gs)) ++ ws) (map (copied set) (kept_bodies (groups_marks set t gs)) ++ ks)
          (λ past' s' base' more opens.
          rest past' s' base'
          (λ past'' s'' base'' more'' opens''.
          later past'' s'' base'' (omega (arith, more, more''))
          (or-so (is_sound_bundle set t.header (run bs)) (any_bundle set t.header gs) (1 ≤ opened_in Ascii past'') (λ e. omega (arith, opens e, more'')) opens'')))))
      by (some fault) f rest =
          rw (dropped-marked _ bs)
          (rest past s base
          (λ past'' s'' base'' more'' opens''.
          later past'' s'' base'' more'' (or-so (is_sound_bundle set t.header (run bs)) (any_bundle set t.header gs) (1 ≤ opened_in Ascii past'') (λ e. unsound bs fault f e) opens'')))
        where
          unsound : (bs : List Body) (fault : Fault) → run_fault set t.header bs ≡ some fault → is_sound_bundle set t.header (run bs) ≡ true → {A : Type 0} → A
          unsound [] fault f e = absurd (not-both e)
          unsound (b ∷ bs) fault f e = absurd (not-both (sym (never (eqb (type_of set b) 20)) ∙ rw f at e))
            where
              never : (c : Bool) → c && false ≡ false
              never true = refl
              never false = refl
