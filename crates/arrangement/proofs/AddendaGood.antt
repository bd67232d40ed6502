-- The records of sound addenda are good, one after the other. Assumes nothing.
use Prim.Native.Nat.{ℕ, ◌+◌, ◌<◌}
use native.Mathlib.Omega.{arith}
use mathlib.Core.Bool.{true, false}
use mathlib.Core.Option.{Option, none, some}
use mathlib.Core.Path.{◌≡◌, refl, sym, ◌∙◌}
use mathlib.Core.List.{List, [], ◌∷◌, ◌++◌}
use lib.Dec.{eqb}
use lib.ListN.{length}
use borrow.Author.Tests.{eq-eqb, lt-ltb}
use Rattle.text.specs.declared.character_set.CharacterSet.{CharacterSet}
use Rattle.text.specs.DataTypes.{every}
use Rattle.layout.specs.Layout.{Layout}
use Rattle.layout.specs.Layouts.{check_detail_addendum_a, check_detail_addendum_b, check_detail_addendum_c, return_addendum_a, return_addendum_b, return_addendum_c, return_addendum_d}
use Rattle.order.specs.MayFollow.{is_one_of, is_carried, follows}
use Rattle.agree.specs.Links.{addenda_kept}
use Rattle.file_as_records.specs.Framed.{Body}
use Rattle.file_as_records.proofs.Figures.{value, stated_in, addenda_in, bofd_in, endorser_in, inside_in, last_in}
use Rattle.file_as_records.proofs.Good.{GoodTo, onto}
use Rattle.file_as_records.proofs.CheckLists.{numbered_as}
use Rattle.arrangement.specs.Tree.{Addenda, of_check, of_return, of_credit}
use Rattle.arrangement.specs.Written.{optional_then, addenda_then}
use Rattle.arrangement.specs.Sound.{IfAny, Right, Numbered, stated, layout_in, SoundAddenda}
use Rattle.arrangement.proofs.Counting.{Counts}
use Rattle.arrangement.proofs.After.{after_optional, after_addenda}
use Rattle.arrangement.proofs.Quiet.{step, quiet_step}
use Rattle.arrangement.proofs.InItem.{next_inside}
use Rattle.arrangement.proofs.OwnAddenda.{next_addenda, next_stated, next_bofd, next_endorser, Adds, adds-26, adds-27, adds-28, adds-32, adds-33, adds-34, adds-35, endorser-check, endorser-return}
use Rattle.arrangement.proofs.Making.{Allow, Follows, checked, made_plain, allow-at, allow-first, allow-rest}
use Rattle.arrangement.proofs.SoundTyped.{addenda-typed}

-- Here, and for views, items, bundles and cash letters, each law makes good the records of a part and then `rest`, given facts of those
-- before it, if from the same facts behind the part `rest` is good there: what is known goes forward, and what is good comes back.

-- the addenda that an item of a bundle still owes
pub record Owes (set : CharacterSet) (past owed : List Body) : Type 0 where
  pub count : length owed + addenda_in set past ≡ stated_in set past
  pub inside : inside_in set past ≡ true

-- what may come behind an item of a bundle, with its addenda and views: the next item, or the bundle's control
abbrev pub ends_of : Addenda → List ℕ
ends_of (of_check a b c) = 25 ∷ 61 ∷ 70 ∷ []
ends_of (of_return a b c d) = 31 ∷ 61 ∷ 70 ∷ []
ends_of of_credit = 25 ∷ 31 ∷ 61 ∷ 70 ∷ []

module _ (End : List Body → Type 0) (set : CharacterSet) (k : Layout) (adds : Adds set k) (c : is_carried k.type_number ≡ true)
    (o : is_one_of k.type_number checked ≡ false) where
  one-good : (past : List Body) (b : Body) (owed rest : List Body) → Right set k b → Follows set past k.type_number
      → numbered_as set k.type_number past b ≡ true → Owes set past (b ∷ owed) → (Owes set (b ∷ past) owed → GoodTo End set (b ∷ past) rest)
      → GoodTo End set past (b ∷ rest)
  unfolding addenda_kept
  one-good past b owed rest right allowed number owes on =
      let t = k.type_number in
      let fewer : addenda_in set past < stated_in set past = omega (arith, owes.count) in
      let more = step set 0 next_addenda past b t right.type ∙ adds.more b (addenda_in set past) in
      let still = quiet_step set 0 (next_stated set) past b t right.type adds.same-stated in
      record {
        first =
            made_plain set k adds.known c o past b right allowed (rw (adds.addendum, lt-ltb (addenda_in set past) (stated_in set past) fewer) refl) number;
        rest =
            on
            (record {
              count = omega (arith, owes.count, more, still);
              inside = quiet_step set false next_inside past b t right.type adds.same-inside ∙ owes.inside;
            });
      }

  optional-good : (ts : List ℕ) → every (follows true k.type_number) ts ≡ true
      → ((p : List Body) (b : Body) → numbered_as set k.type_number p b ≡ true)
      → (past : List Body) (x : Option Body) (owed rest : List Body) → IfAny (Right set k) x → Allow set (k.type_number ∷ ts) past
      → Owes set past (optional_then x owed)
      → (Allow set ts (after_optional past x) → Owes set (after_optional past x) owed → GoodTo End set (after_optional past x) rest)
      → GoodTo End set past (optional_then x rest)
  optional-good ts then n past none owed rest right allowed owes on = on (allow-rest set allowed) owes
  optional-good ts then n past (some b) owed rest right allowed owes on =
      one-good past b owed rest right (allow-first set allowed) (n past b) owes (λ w. on (allow-at set ts w.inside right.type then) w)

  -- a run of them, numbered on from a figure
  module _ (next : ℕ → Body → ℕ → ℕ) (counts : Counts next k.type_number)
      (numbered : (past : List Body) (b : Body) → numbered_as set k.type_number past b ≡ eqb (stated set k 2 b) (value set 0 next past + 1))
      (ts : List ℕ) (again : every (follows true k.type_number) (k.type_number ∷ ts) ≡ true) where
    run-good : (past bs owed rest : List Body) (n : ℕ) → Numbered set k n bs → value set 0 next past + 1 ≡ n → Allow set (k.type_number ∷ ts) past
        → Owes set past (bs ++ owed) → (Allow set ts (onto bs past) → Owes set (onto bs past) owed → GoodTo End set (onto bs past) rest)
        → GoodTo End set past (bs ++ rest)
    run-good past [] owed rest n sound e allowed owes on = on (allow-rest set allowed) owes
    run-good past (b ∷ bs) owed rest n sound e allowed owes on =
        let t = k.type_number in
        let right = sound.0.right in
        let more = step set 0 next past b t right.type ∙ counts b (value set 0 next past) in
        let number = numbered past b ∙ eq-eqb (stated set k 2 b) (value set 0 next past + 1) (sound.0.number ∙ sym e) in
        one-good past b (bs ++ owed) (bs ++ rest) right (allow-first set allowed) number owes
        (λ w. run-good (b ∷ past) bs owed rest (n + 1) sound.1 (omega (arith, more, e)) (allow-at set (t ∷ ts) w.inside right.type again) w on)

-- the addenda of an item of a bundle, behind its first record
pub addenda-good : (End : List Body → Type 0) (set : CharacterSet) (past : List Body) (a : Addenda) (rest : List Body) → SoundAddenda set a
    → last_in set past ≡ (layout_in a).type_number → bofd_in set past ≡ 0
    → endorser_in set past ≡ 0 → Owes set past (addenda_then a [])
    → (Allow set (50 ∷ ends_of a) (after_addenda past a) → Owes set (after_addenda past a) [] → GoodTo End set (after_addenda past a) rest)
    → GoodTo End set past (addenda_then a rest)
unfolding follows is_carried
addenda-good End set past (of_check a b c) rest sound last bofd endorser owes on =
    let ends : List ℕ = 50 ∷ ends_of (of_check a b c) in
    let still = endorser-check set past a b c (addenda-typed set (of_check a b c) sound) in
    run-good End set check_detail_addendum_a (adds-26 set) refl refl next_bofd (λ d y. refl) (λ p d. refl) (27 ∷ 28 ∷ ends) refl
    past a (optional_then b (c ++ [])) (optional_then b (c ++ rest)) 1 sound.addenda-a (omega (arith, bofd))
    (allow-at set (26 ∷ 27 ∷ 28 ∷ ends) owes.inside last refl) owes
    (λ x w. optional-good End set check_detail_addendum_b (adds-27 set) refl refl (28 ∷ ends) refl (λ p d. refl)
    (onto a past) b (c ++ []) (c ++ rest) sound.addendum-b x w
    (λ y v. run-good End set check_detail_addendum_c (adds-28 set) refl refl next_endorser (λ d y. refl) (λ p d. refl) ends refl
    (after_optional (onto a past) b) c [] rest 1 sound.addenda-c (omega (arith, still, endorser)) y v on))
addenda-good End set past (of_return a b c d) rest sound last bofd endorser owes on =
    let ends : List ℕ = 50 ∷ ends_of (of_return a b c d) in
    let still = endorser-return set past a b c d (addenda-typed set (of_return a b c d) sound) in
    run-good End set return_addendum_a (adds-32 set) refl refl next_bofd (λ d y. refl) (λ p d. refl) (33 ∷ []) refl
    past a (b ∷ optional_then c (d ++ [])) (b ∷ optional_then c (d ++ rest)) 1 sound.addenda-a (omega (arith, bofd))
    (allow-at set (32 ∷ 33 ∷ []) owes.inside last refl) owes
    (λ x w. one-good End set return_addendum_b (adds-33 set) refl refl
    (onto a past) b (optional_then c (d ++ [])) (optional_then c (d ++ rest)) sound.addendum-b (x.may 33 refl) refl w
    (λ v. optional-good End set return_addendum_c (adds-34 set) refl refl (35 ∷ ends) refl (λ p d. refl)
    (b ∷ onto a past) c (d ++ []) (d ++ rest) sound.addendum-c (allow-at set (34 ∷ 35 ∷ ends) v.inside sound.addendum-b.type refl) v
    (λ y u. run-good End set return_addendum_d (adds-35 set) refl refl next_endorser (λ d y. refl) (λ p d. refl) ends refl
    (after_optional (b ∷ onto a past) c) d [] rest 1 sound.addenda-d (omega (arith, still, endorser)) y u on)))
addenda-good End set past of_credit rest sound last bofd endorser owes on = on (allow-at set (50 ∷ ends_of of_credit) owes.inside last refl) owes
