-- A record that agrees with those before it in one file agrees with them in another, in which all of them stand alike. Assumes nothing.
use Prim.Native.Nat.{ℕ, ◌+◌, ◌≤◌}
use native.Mathlib.Omega.{arith}
use mathlib.Core.Path.{◌≡◌, refl, ap, ap₂}
use mathlib.Core.Bool.{Bool, true, false, ◌||◌, not, cond}
use mathlib.Core.List.{List, [], ◌∷◌}
use lib.Dec.{eqb}
use borrow.Author.Tests.{eqb-true}
use Rattle.text.specs.declared.character_set.CharacterSet.{CharacterSet}
use Rattle.layout.specs.Layout.{Layout}
use Rattle.layout.specs.Layouts.{cash_letter_header, bundle_header, check_detail, check_detail_addendum_a, check_detail_addendum_c, return_record, return_addendum_a, return_addendum_d, image_view_data, credit_record, bundle_control, cash_letter_control, file_control}
use Rattle.measure.specs.declared.Sums.{Sums}
use Rattle.order.specs.MayFollow.{is_item}
use Rattle.standing.specs.History.{Entry, at_newest, is, is_item_entry}
use Rattle.standing.specs.Standing.{standing}
use Rattle.standing.specs.declared.Standing.{Standing}
use Rattle.agree.specs.Checks.{Check, check, first_failing}
use Rattle.agree.specs.Links.{sequence_of_item, institution_over, date_over, numbered_on, view_links, link_checks, link_fault}
use Rattle.agree.specs.Totals.{states, bundle_totals, letter_totals, file_totals, total_fault}
use Rattle.passes.specs.CheckOrder.{agreement}
use Rattle.ascii_copy.proofs.SoundCharacters.{width_of}
use Rattle.alike.proofs.Figures.{placed}
use Rattle.alike.proofs.Alike.{Law, AlikeAt, AlikePast, reaches, chosen, narrower, field_alike, number-alike, as-type, cond-alike}

-- one check, and those after it
then : (n : ℕ) {b b' : Bool} {cs cs' : List Check} → b ≡ b' → cs ≡ cs' → check n b ∷ cs ≡ check n b' ∷ cs'
then n p q = ap₂ (λ (b : Bool) (cs : List Check). check n b ∷ cs) p q

-- a 10, a 20 and an item are as wide as what is compared
pub wide-as : (t k : ℕ) → eqb t k ≡ true → 80 ≤ width_of k → 80 ≤ width_of t
wide-as t k e h = rw (eqb-true t k e) h

pub item-wide : (t : ℕ) → is_item t ≡ true → 80 ≤ width_of t
item-wide t = by (eqb t 25) refl (eqb t 31) refl
  where
    by : (b : Bool) → eqb t 25 ≡ b → (c : Bool) → eqb t 31 ≡ c → (b || c) || eqb t 61 ≡ true → 80 ≤ width_of t
    by true p c q e = wide-as t 25 p (omega arith)
    by false p true q e = wide-as t 31 q (omega arith)
    by false p false q e = wide-as t 61 e (omega arith)

-- the records with which a 52 is compared: by their places among figures of the one file, and by places in the other
pub record Compared (R : List ℕ → List ℕ → Type 0) (file other : List ℕ) (s : Standing) (i h g : ℕ) : Type 0 where
  pub item : AlikeAt R file other s.item i 80
  pub header : AlikeAt R file other s.header h 80
  pub heading : AlikeAt R file other s.heading g 80

abbrev AlikeThere : (List ℕ → List ℕ → Type 0) → List ℕ → List ℕ → (Entry → Bool) → List Entry → Type 0
AlikeThere R file other test past =
    AlikeAt R file other (at_newest test (λ r. r.offset) past) (at_newest test (λ r. r.offset) past) 80

module _ {set set' : CharacterSet} {R : List ℕ → List ℕ → Type 0} (law : Law set set' R) where
  states-alike : (k : Layout) (n value : ℕ) {file other : List ℕ} {o o' w : ℕ} → AlikeAt R file other o o' w → reaches k.lines n w ≡ true
      → states set' k other o' n value ≡ states set k file o n value
  states-alike k n value a e = ap (λ (m : ℕ). eqb m value) (number-alike law a k n e)

  -- TOTAL
  module _ {file other : List ℕ} {o o' : ℕ} where
    bundle-alike : (s : Sums) (micr : ℕ) → AlikeAt R file other o o' 80 → bundle_totals set' other s micr o' ≡ bundle_totals set file s micr o
    bundle-alike s micr a =
        then 2 (states-alike bundle_control 2 _ a refl)
        (then 3 (states-alike bundle_control 3 _ a refl)
        (then 4 (ap₂ ◌||◌ (law.blanks (field_alike law a bundle_control 4 refl)) (states-alike bundle_control 4 _ a refl))
        (then 5 (states-alike bundle_control 5 _ a refl)
        (then 6 (states-alike bundle_control 6 _ a refl) (then 7 (states-alike bundle_control 7 _ a refl) refl)))))

    letter-alike : (bundles : ℕ) (s : Sums) → AlikeAt R file other o o' 85 → letter_totals set' other bundles s o' ≡ letter_totals set file bundles s o
    letter-alike bundles s a =
        then 2 (states-alike cash_letter_control 2 _ a refl)
        (then 3 (states-alike cash_letter_control 3 _ a refl)
        (then 4 (states-alike cash_letter_control 4 _ a refl)
        (then 5 (states-alike cash_letter_control 5 _ a refl)
        (then 8 (states-alike cash_letter_control 8 _ a refl) (then 9 (states-alike cash_letter_control 9 _ a refl) refl)))))

    file-alike : (letters before items : ℕ) (s : Sums) → AlikeAt R file other o o' 80
        → file_totals set' other letters before items s o' ≡ file_totals set file letters before items s o
    file-alike letters before items s a =
        then 2 (states-alike file_control 2 _ a refl)
        (then 3 (states-alike file_control 3 _ a refl)
        (then 4 (states-alike file_control 4 _ a refl)
        (then 5 (states-alike file_control 5 _ a refl) (then 8 (states-alike file_control 8 _ a refl) refl))))

    total-alike : (s : Standing) (i h g t : ℕ) → AlikeAt R file other o o' (width_of t) → total_fault set' other (placed s i h g) t o' ≡ total_fault set file s t o
    unfolding total_fault
    total-alike s i h g t a =
        ap first_failing
        (cond-alike (eqb t 70) (λ e. bundle-alike s.bundle s.micr.0 (as-type t 70 a e))
        (λ _. cond-alike (eqb t 90) (λ e. letter-alike s.opened s.letter (as-type t 90 a e))
        (λ _. cond-alike (eqb t 99) (λ e. file-alike s.letters s.records.0 s.items.0 s.whole (as-type t 99 a e)) (λ _. refl))))

  -- LINK
  module _ {file other : List ℕ} where
    numbered-alike : (bofd endorser t : ℕ) {o o' : ℕ} → AlikeAt R file other o o' (width_of t)
        → numbered_on set' other bofd endorser t o' ≡ numbered_on set file bofd endorser t o
    unfolding numbered_on
    numbered-alike bofd endorser t a =
        cond-alike (eqb t 26) (λ e. states-alike check_detail_addendum_a 2 (bofd + 1) (as-type t 26 a e) refl)
        (λ _. cond-alike (eqb t 32) (λ e. states-alike return_addendum_a 2 (bofd + 1) (as-type t 32 a e) refl)
        (λ _. cond-alike (eqb t 28) (λ e. states-alike check_detail_addendum_c 2 (endorser + 1) (as-type t 28 a e) refl)
        (λ _. cond-alike (eqb t 35) (λ e. states-alike return_addendum_d 2 (endorser + 1) (as-type t 35 a e) refl) (λ _. refl))))

    -- the records with which a 52 is compared
    module _ (s : Standing) {i h g : ℕ} (c : Compared R file other s i h g) where
      sequence-alike : R (sequence_of_item file s.holder s.item) (sequence_of_item other s.holder i)
      sequence-alike =
          chosen law (eqb s.holder 61) (field_alike law c.item credit_record 8 refl)
          (chosen law (eqb s.holder 31) (field_alike law c.item return_record 7 refl) (field_alike law c.item check_detail 7 refl))

      institution-alike : R (institution_over file s) (institution_over other (placed s i h g))
      institution-alike =
          chosen law s.inside (field_alike law c.header bundle_header 4 refl) (field_alike law c.heading cash_letter_header 4 refl)

      date-alike : R (date_over file s) (date_over other (placed s i h g))
      date-alike = chosen law s.inside (field_alike law c.header bundle_header 5 refl) (field_alike law c.heading cash_letter_header 5 refl)

      view-alike : {o o' : ℕ} → AlikeAt R file other o o' 139 → view_links set' other (placed s i h g) o' ≡ view_links set file s o
      view-alike a =
          let signed : Bool → Bool = λ b. not (eqb s.signature 1) || not b in
          then 2 (law.compared (field_alike law a image_view_data 2 refl) institution-alike)
          (then 3 (law.compared (field_alike law a image_view_data 3 refl) date-alike)
          (then 4
          (ap (λ (b : Bool). not s.inside || b) (law.compared (field_alike law a image_view_data 4 refl) (field_alike law c.header bundle_header 9 refl)))
          (then 5 (law.compared (field_alike law a image_view_data 5 refl) sequence-alike)
          (then 7 (ap signed (law.blanks (field_alike law a image_view_data 7 refl)))
          (then 8 (ap signed (law.blanks (field_alike law a image_view_data 8 refl))) refl)))))

    links-alike : (s : Standing) (i h g t : ℕ) {o o' : ℕ} → AlikeAt R file other o o' (width_of t)
        → (eqb t 52 ≡ true → view_links set' other (placed s i h g) o' ≡ view_links set file s o)
        → link_checks set' other (placed s i h g) t o' ≡ link_checks set file s t o
    links-alike s i h g t a views =
        then 1 refl (then 1 refl (then 2 (numbered-alike s.bofd s.endorser t a) (cond-alike (eqb t 52) views (λ _. refl))))

    -- they stand in the past; where there is none, what stands at offset 0 is compared
    newest-there : (test : Entry → Bool) → ((r : Entry) → test r ≡ true → 80 ≤ width_of r.type) → AlikeAt R file other 0 0 80
        → (past : List Entry) → AlikePast R file other past → AlikeThere R file other test past
    newest-there test h z [] a = z
    newest-there test h z (r ∷ rs) a = by (test r) refl (newest-there test h z rs a.1)
      where
        by : (b : Bool) → test r ≡ b → AlikeThere R file other test rs
            → AlikeAt R file other (cond b r.offset (at_newest test (λ r. r.offset) rs)) (cond b r.offset (at_newest test (λ r. r.offset) rs)) 80
        by true e older = narrower law a.0 80 (h r e)
        by false e older = older

  -- with figures that are the same but for these places
  module _ {file other : List ℕ} (s : Standing) (i h g t : ℕ) {o o' : ℕ} (own : AlikeAt R file other o o' (width_of t))
      (over : t ≡ 52 → Compared R file other s i h g) where
    link-alike : link_fault set' other (placed s i h g) t o' ≡ link_fault set file s t o
    unfolding link_fault
    link-alike = ap first_failing (links-alike s i h g t own (λ e. view-alike s (over (eqb-true t 52 e)) (as-type t 52 own e)))

    pub agreement-placed : agreement set' other (placed s i h g) o' t ≡ agreement set file s o t
    unfolding agreement
    agreement-placed = rw (link-alike, total-alike s i h g t own)

  -- with the same figures
  pub agreement-alike : (file other : List ℕ) (past : List Entry) (at t : ℕ) → AlikePast R file other past → AlikeAt R file other at at (width_of t)
      → (t ≡ 52 → AlikeAt R file other 0 0 80) → agreement set' other (standing set file past) at t ≡ agreement set file (standing set file past) at t
  unfolding standing
  agreement-alike file other past at t a own first =
      agreement-placed (standing set file past) (at_newest is_item_entry (λ r. r.offset) past) (at_newest (is 20) (λ r. r.offset) past)
      (at_newest (is 10) (λ r. r.offset) past) t own
      (λ e. record {
        item = newest-there is_item_entry (λ r. item-wide r.type) (first e) past a;
        header = newest-there (is 20) (λ r q. wide-as r.type 20 q (omega arith)) (first e) past a;
        heading = newest-there (is 10) (λ r q. wide-as r.type 10 q (omega arith)) (first e) past a;
      })
