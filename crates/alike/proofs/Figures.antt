-- The figures of records that stand in two files alike. Assumes nothing.
use Prim.Native.Nat.{ℕ, ◌+◌}
use mathlib.Core.Path.{◌≡◌, refl, ap, ap₂}
use mathlib.Core.Bool.{Bool, true, ◌||◌, not, cond}
use mathlib.Core.List.{List, [], ◌∷◌}
use lib.Dec.{eqb}
use Rattle.text.specs.declared.character_set.CharacterSet.{CharacterSet}
use Rattle.layout.specs.Layouts.{cash_letter_header, check_detail, return_record, image_view_detail, credit_record}
use Rattle.measure.specs.Measures.{cents, sums, no_sums, together}
use Rattle.measure.specs.declared.Sums.{Sums}
use Rattle.order.specs.MayFollow.{is_check_or_return, is_item}
use Rattle.standing.specs.History.{Entry, amount_of, is_debit, is_credit, micr_of, stated_by, indicator_in, signature_in, one, adds, sum_since, sums_since, at_newest, never, is, is_item_entry}
use Rattle.standing.specs.Standing.{standing, onward}
use Rattle.standing.specs.declared.Standing.{Standing}
use Rattle.standing.proofs.Laws.{assembled}
use Rattle.passes.specs.Rows.{row_of}
use Rattle.ascii_copy.proofs.SoundCharacters.{width_of}
use Rattle.alike.proofs.Alike.{Law, AlikeAt, AlikePast, field_alike, number-alike, as-type, cond-alike, and_alike}

-- figures with other places of the records with which a 52 is compared
abbrev pub placed : Standing → ℕ → ℕ → ℕ → Standing
placed s i h g =
    record {
      last = s.last;
      inside = s.inside;
      present = s.present;
      holder = s.holder;
      records = s.records;
      letters = s.letters;
      bundles = s.bundles;
      opened = s.opened;
      items = s.items;
      ordinal = s.ordinal;
      whole = s.whole;
      letter = s.letter;
      bundle = s.bundle;
      micr = s.micr;
      addenda = s.addenda;
      bofd = s.bofd;
      endorser = s.endorser;
      shown = s.shown;
      stated = s.stated;
      item = i;
      header = h;
      heading = g;
      indicator = s.indicator;
      signature = s.signature;
    }

module _ {set set' : CharacterSet} {R : List ℕ → List ℕ → Type 0} (law : Law set set' R) where
  -- of one record, by its type
  module _ {file other : List ℕ} (t : ℕ) {o o' : ℕ} (a : AlikeAt R file other o o' (width_of t)) where
    amount-alike : amount_of set' other t o' ≡ amount_of set file t o
    amount-alike =
        cond-alike (eqb t 25) (λ e. number-alike law (as-type t 25 a e) check_detail 6 refl)
        (λ _. cond-alike (eqb t 31) (λ e. number-alike law (as-type t 31 a e) return_record 6 refl)
        (λ _. cond-alike (eqb t 61) (λ e. number-alike law (as-type t 61 a e) credit_record 7 refl) (λ _. refl)))

    stated_alike : stated_by set' other t o' ≡ stated_by set file t o
    stated_alike =
        cond-alike (eqb t 25) (λ e. number-alike law (as-type t 25 a e) check_detail 12 refl)
        (λ _. cond-alike (eqb t 31) (λ e. number-alike law (as-type t 31 a e) return_record 8 refl) (λ _. refl))

    debit-alike : is_debit set' other t o' ≡ is_debit set file t o
    debit-alike =
        ap (λ (b : Bool). is_check_or_return t || b)
        (and_alike (eqb t 61) (λ e. ap (λ (n : ℕ). eqb n 9) (number-alike law (as-type t 61 a e) credit_record 2 refl)))

    credit-alike : is_credit set' other t o' ≡ is_credit set file t o
    credit-alike = and_alike (eqb t 61) (λ e. ap (λ (n : ℕ). not (eqb n 9)) (number-alike law (as-type t 61 a e) credit_record 2 refl))

    micr-alike : micr_of set' other t o' ≡ micr_of set file t o
    micr-alike =
        ap₂ (λ (b : Bool) (n : ℕ). cond b n 0)
        (and_alike (eqb t 25) (λ e. ap (λ (n : ℕ). eqb n 1) (number-alike law (as-type t 25 a e) check_detail 10 refl)))
        amount-alike

    adds-alike : adds set' other t o' ≡ adds set file t o
    adds-alike = by debit-alike credit-alike amount-alike
      where
        by : {d d' c c' : Bool} {n n' : ℕ} → d ≡ d' → c ≡ c' → n ≡ n'
            → sums (one d) (cond d n 0) (one c) (cond c n 0) (one (eqb t 50)) ≡ sums (one d') (cond d' n' 0) (one c') (cond c' n' 0) (one (eqb t 50))
        by p q r = rw (p, q, r)

  pub row-alike : {file other : List ℕ} (t : ℕ) {o : ℕ} → AlikeAt R file other o o (width_of t) → (s : Standing) (size : ℕ)
      → row_of set' other s t o size ≡ row_of set file s t o size
  row-alike t a s size = rw (amount-alike t a)

  -- how it moves figures on, in either file with places of its own
  pub onward-alike : {file other : List ℕ} (s : Standing) (i h g t : ℕ) {o o' : ℕ} → AlikeAt R file other o o' (width_of t)
      → onward set' other (placed s i h g) t o'
      ≡ placed (onward set file s t o) (cond (is_item t) o' i) (cond (eqb t 20) o' h) (cond (eqb t 10) o' g)
  unfolding onward
  onward-alike s i h g t a =
      assembled refl refl refl refl refl refl refl refl refl refl (ap (λ (m : Sums). together m s.whole) (adds-alike t a))
      (ap (λ (m : Sums). cond (eqb t 10) no_sums (together m s.letter)) (adds-alike t a))
      (ap (λ (m : Sums). cond (eqb t 20) no_sums (together m s.bundle)) (adds-alike t a))
      (ap (λ (n : ℕ). cents (cond (eqb t 20) 0 (n + s.micr.0))) (micr-alike t a))
      refl refl refl refl
      (ap (λ (n : ℕ). cond (is_item t) n s.stated) (stated_alike t a))
      refl refl refl
      (cond-alike (eqb t 10) (λ e. law.capitals (field_alike law (as-type t 10 a e) cash_letter_header 8 refl)) (λ _. refl))
      (cond-alike (eqb t 50) (λ e. number-alike law (as-type t 50 a e) image_view_detail 10 refl) (λ _. refl))

  -- over the records read so far
  module _ (file other : List ℕ) where
    sum_alike : (begins : Entry → Bool) (f g : Entry → ℕ) → ((r : Entry) → AlikeAt R file other r.offset r.offset (width_of r.type) → f r ≡ g r)
        → (past : List Entry) → AlikePast R file other past → sum_since begins f past ≡ sum_since begins g past
    sum_alike begins f g h [] a = refl
    sum_alike begins f g h (r ∷ rs) a = ap₂ (λ (m n : ℕ). cond (begins r) 0 (m + n)) (h r a.0) (sum_alike begins f g h rs a.1)

    sums-alike : (begins : Entry → Bool) (past : List Entry) → AlikePast R file other past
        → sums_since set' begins other past ≡ sums_since set begins file past
    sums-alike begins [] a = refl
    sums-alike begins (r ∷ rs) a =
        ap₂ (λ (m n : Sums). cond (begins r) no_sums (together m n)) (adds-alike r.type a.0) (sums-alike begins rs a.1)

    newest-alike : (test : Entry → Bool) (f g : Entry → ℕ)
        → ((r : Entry) → test r ≡ true → AlikeAt R file other r.offset r.offset (width_of r.type) → f r ≡ g r)
        → (past : List Entry) → AlikePast R file other past → at_newest test f past ≡ at_newest test g past
    newest-alike test f g h [] a = refl
    newest-alike test f g h (r ∷ rs) a = cond-alike (test r) (λ e. h r e a.0) (λ _. newest-alike test f g h rs a.1)

    pub standing-alike : (past : List Entry) → AlikePast R file other past → standing set' other past ≡ standing set file past
    unfolding standing
    standing-alike past a =
        assembled refl refl refl refl refl refl refl refl refl refl (sums-alike never past a) (sums-alike (is 10) past a) (sums-alike (is 20) past a)
        (ap cents
        (sum_alike (is 20) (λ r. micr_of set' other r.type r.offset) (λ r. micr_of set file r.type r.offset) (λ r. micr-alike r.type) past a))
        refl refl refl refl
        (newest-alike is_item_entry (λ r. stated_by set' other r.type r.offset) (λ r. stated_by set file r.type r.offset)
        (λ r _. stated_alike r.type) past a)
        refl refl refl
        (newest-alike (is 10) (λ r. indicator_in set' other r.offset) (λ r. indicator_in set file r.offset)
        (λ r e b. law.capitals (field_alike law (as-type r.type 10 b e) cash_letter_header 8 refl)) past a)
        (newest-alike (is 50) (λ r. signature_in set' other r.offset) (λ r. signature_in set file r.offset)
        (λ r e b. number-alike law (as-type r.type 50 b e) image_view_detail 10 refl) past a)
