-- Numbers of fields are small, and so are sums over few records; how one record more moves a figure, and all figures, on. Assumes nothing.
use mathlib.Core.Path.{◌≡◌, refl, sym, ap, ◌∙◌}
use mathlib.Core.List.{List, [], ◌∷◌}
use mathlib.Core.Bool.{Bool, true, false, cond}
use native.Mathlib.Numerals.{add-one}
use lib.Dec.{eqb}
use Rattle.text.specs.declared.character_set.CharacterSet.{CharacterSet}
use Rattle.measure.specs.Measures.{cents, no_sums, together, capped, capped_sums, Small}
use Rattle.measure.proofs.Capped.{capped_small, capped-twice, capped-since, capped-sums-twice, capped-sums-since}
use Rattle.measure.specs.declared.Sums.{Sums}
use Rattle.measure.specs.declared.Cents.{Cents}
use Rattle.measure.specs.declared.Items.{Items}
use Rattle.measure.specs.declared.Records.{Records}
use Rattle.order.specs.MayFollow.{is_item, is_addendum}
use Rattle.standing.specs.declared.Standing.{Standing}
use Prim.Native.Nat.{ℕ, ◌+◌, ◌-◌, ◌*◌, ◌^◌, ◌≤◌, ◌<◌}
use native.Mathlib.Omega.{arith}
use lib.ListN.{length, drop, length-take}
use Rattle.text.specs.Number.{number}
use Rattle.text.proofs.Laws.{number-below}
use Rattle.standing.specs.History.{Entry, entry, characters, is_debit, is_credit, micr_of, adds, one, sum_since, sums_since, count_since, never, is, is_item_entry, is_bofd_addendum, is_endorser_addendum}
use Rattle.standing.specs.Standing.{standing, onward, capped_figures, Roomy}

-- the number of a few characters
pub few-digits : (set : CharacterSet) (file : List ℕ) (offset first size k : ℕ) → size ≤ k → number set (characters file offset first size) < 10 ^ k
few-digits set file offset first size k h =
    number-below set (characters file offset first size) k (omega (arith, length-take size (drop (offset + 4 + (first - 1)) file)))

-- a figure moved on, with its parts replaced by equals
pub since-moves : (o : ℕ) {r m m' : ℕ} {b b' : Bool} → r ≡ cond b 0 (m + o) → b ≡ b' → m ≡ m' → r ≡ cond b' 0 (m' + o)
since-moves o e b m = rw (sym b, sym m) e

pub sums-move : (b : Bool) (o : Sums) {r a a' : Sums} → r ≡ cond b no_sums (capped_sums (together a o)) → a ≡ a' → r ≡ capped_sums (cond b no_sums (together a' o))
sums-move true o e a = e
sums-move false o e a = e ∙ ap (λ (x : Sums). capped_sums (together x o)) a

-- figures that are equal one by one
pub assembled : {last last' : ℕ} {inside inside' : Bool} {present present' : ℕ} {holder holder' : ℕ} {records records' : Records} {letters letters' : ℕ} {bundles bundles' : ℕ} {opened opened' : ℕ} {items items' : Items} {ordinal ordinal' : ℕ} {whole whole' : Sums} {letter letter' : Sums} {bundle bundle' : Sums} {micr micr' : Cents} {addenda addenda' : ℕ} {bofd bofd' : ℕ} {endorser endorser' : ℕ} {shown shown' : ℕ} {stated stated' : ℕ} {item item' : ℕ} {header header' : ℕ} {heading heading' : ℕ} {indicator indicator' : ℕ} {signature signature' : ℕ}
    → last ≡ last' → inside ≡ inside' → present ≡ present' → holder ≡ holder' → records ≡ records' → letters ≡ letters' → bundles ≡ bundles' → opened ≡ opened' → items ≡ items' → ordinal ≡ ordinal' → whole ≡ whole' → letter ≡ letter' → bundle ≡ bundle' → micr ≡ micr' → addenda ≡ addenda' → bofd ≡ bofd' → endorser ≡ endorser' → shown ≡ shown' → stated ≡ stated' → item ≡ item' → header ≡ header' → heading ≡ heading' → indicator ≡ indicator' → signature ≡ signature'
    → ◌≡◌ {A = Standing}
    (record { last = last; inside = inside; present = present; holder = holder; records = records; letters = letters; bundles = bundles; opened = opened; items = items; ordinal = ordinal; whole = whole; letter = letter; bundle = bundle; micr = micr; addenda = addenda; bofd = bofd; endorser = endorser; shown = shown; stated = stated; item = item; header = header; heading = heading; indicator = indicator; signature = signature })
    (record { last = last'; inside = inside'; present = present'; holder = holder'; records = records'; letters = letters'; bundles = bundles'; opened = opened'; items = items'; ordinal = ordinal'; whole = whole'; letter = letter'; bundle = bundle'; micr = micr'; addenda = addenda'; bofd = bofd'; endorser = endorser'; shown = shown'; stated = stated'; item = item'; header = header'; heading = heading'; indicator = indicator'; signature = signature' })
assembled e0 e1 e2 e3 e4 e5 e6 e7 e8 e9 e10 e11 e12 e13 e14 e15 e16 e17 e18 e19 e20 e21 e22 e23 = rw (e0, e1, e2, e3, e4, e5, e6, e7, e8, e9, e10, e11, e12, e13, e14, e15, e16, e17, e18, e19, e20, e21, e22, e23)

pub standing-records : (set : CharacterSet) (file : List ℕ) (past : List Entry) → (standing set file past).records.0 ≡ length past
unfolding standing
standing-records set file past = refl

-- sums of cents that have stopped
pub figures-stopped : (s u : Standing) → s.whole ≡ capped_sums u.whole → s.letter ≡ capped_sums u.letter → s.bundle ≡ capped_sums u.bundle
    → s.micr ≡ cents (capped u.micr.0) → capped_figures s ≡ s
figures-stopped s u whole letter bundle micr =
    let sums : (a b : Sums) → a ≡ capped_sums b → capped_sums a ≡ a = λ a b e. ap capped_sums e ∙ capped-sums-twice b ∙ sym e in
    assembled refl refl refl refl refl refl refl refl refl refl (sums s.whole u.whole whole) (sums s.letter u.letter letter)
    (sums s.bundle u.bundle bundle)
    (ap (λ (m : Cents). cents (capped m.0)) micr ∙ ap cents (capped-twice u.micr.0) ∙ sym micr) refl refl refl refl refl refl refl refl refl refl

pub figures-twice : (s : Standing) → capped_figures (capped_figures s) ≡ capped_figures s
figures-twice s = figures-stopped (capped_figures s) s refl refl refl refl

pub figures-capped : (s u : Standing) → s ≡ capped_figures u → capped_figures s ≡ s
figures-capped s u e = ap capped_figures e ∙ figures-twice u ∙ sym e

-- the figures with one record more are those without it, moved on
pub standing-onward : (set : CharacterSet) (file : List ℕ) (past : List Entry) (t offset n : ℕ)
    → standing set file (entry t offset n ∷ past) ≡ onward set file (standing set file past) t offset
unfolding standing onward
standing-onward set file past t offset n = rw (add-one (length past))

-- and it makes no difference whether their cents have stopped before
pub onward-capped : (set : CharacterSet) (file : List ℕ) (s : Standing) (t offset : ℕ)
    → capped_figures (onward set file (capped_figures s) t offset) ≡ capped_figures (onward set file s t offset)
unfolding onward
onward-capped set file s t offset =
    assembled refl refl refl refl refl refl refl refl refl refl (capped-sums-since false (adds set file t offset) s.whole)
    (capped-sums-since (eqb t 10) (adds set file t offset) s.letter) (capped-sums-since (eqb t 20) (adds set file t offset) s.bundle)
    (ap cents (capped-since (eqb t 20) (micr_of set file t offset) s.micr.0)) refl refl refl refl refl refl refl refl refl refl

pub moved_on : (set : CharacterSet) (file : List ℕ) (past : List Entry) (s r : Standing) (t offset n : ℕ) → s ≡ capped_figures (standing set file past)
    → r ≡ capped_figures (onward set file s t offset) → r ≡ capped_figures (standing set file (entry t offset n ∷ past))
moved_on set file past s r t offset n e m =
    m
    ∙ ap (λ (u : Standing). capped_figures (onward set file u t offset)) e
    ∙ onward-capped set file (standing set file past) t offset
    ∙ ap capped_figures (sym (standing-onward set file past t offset n))

-- sums over few records are small
picked : (t : Bool) {x m : ℕ} → x ≤ m → cond t 0 x ≤ m
picked true h = omega arith
picked false h = h

pub sum-small : (begins : Entry → Bool) (measure : Entry → ℕ) (b : ℕ) → ((r : Entry) → measure r ≤ b) → (past : List Entry)
    → sum_since begins measure past ≤ length past * b
sum-small begins measure b h [] = omega arith
sum-small begins measure b h (r ∷ rs) = picked (begins r) (omega (arith, sum-small begins measure b h rs, h r))

one-small : (t : Bool) → one t ≤ 1
one-small true = omega arith
one-small false = omega arith

-- sums whose counts are those of so many records; their cents stop by themselves
pub record Below (s : Sums) (n : ℕ) : Type 0 where
  pub debits : s.debits.0 ≤ n
  pub credits : s.credits.0 ≤ n
  pub views : s.views.0 ≤ n

below-pick : (t : Bool) (s : Sums) (n : ℕ) → Below s n → Below (cond t no_sums s) n
below-pick true s n h = record { debits = omega arith; credits = omega arith; views = omega arith }
below-pick false s n h = h

sums-below : (set : CharacterSet) (begins : Entry → Bool) (file : List ℕ) (past : List Entry) → Below (sums_since set begins file past) (length past)
sums-below set begins file [] = record { debits = omega arith; credits = omega arith; views = omega arith }
sums-below set begins file (r ∷ rs) =
    let older = sums-below set begins file rs in
    below-pick (begins r) (together (adds set file r.type r.offset) (sums_since set begins file rs)) (length (r ∷ rs))
    (record {
      debits = omega (arith, older.debits, one-small (is_debit set file r.type r.offset));
      credits = omega (arith, older.credits, one-small (is_credit set file r.type r.offset));
      views = omega (arith, older.views, one-small (eqb r.type 50));
    })

small : (s : Sums) (n : ℕ) → n ≤ 0x2000_0000_0000_0000 → Below s n → Small (capped_sums s)
small s n h b =
    record {
      debits = omega (arith, b.debits);
      debit = omega (arith, capped_small s.debit.0);
      credits = omega (arith, b.credits);
      credit = omega (arith, capped_small s.credit.0);
      views = omega (arith, b.views);
    }

-- the figures of as many records as a file or a draft can have leave room for one more
pub roomy : (set : CharacterSet) (file : List ℕ) (past : List Entry) → length past ≤ 0x2000_0000_0000_0000 → Roomy (capped_figures (standing set file past))
unfolding standing
roomy set file past h =
    let count : (begins : Entry → Bool) (sort : ℕ → Bool) → count_since begins sort past ≤ length past * 1 =
    λ begins sort. sum-small begins (λ r. one (sort r.type)) 1 (λ r. one-small (sort r.type)) past in
    record {
      records = omega arith;
      letters = omega (arith, count never (λ t. eqb t 10));
      bundles = omega (arith, count never (λ t. eqb t 20));
      opened = omega (arith, count (is 10) (λ t. eqb t 20));
      items = omega (arith, count never is_item);
      ordinal = omega (arith, count (is 20) is_item);
      whole = small (sums_since set never file past) (length past) h (sums-below set never file past);
      letter = small (sums_since set (is 10) file past) (length past) h (sums-below set (is 10) file past);
      bundle = small (sums_since set (is 20) file past) (length past) h (sums-below set (is 20) file past);
      micr = omega (arith, capped_small (sum_since (is 20) (λ r. micr_of set file r.type r.offset) past));
      addenda = omega (arith, count is_item_entry is_addendum);
      bofd = omega (arith, count is_item_entry is_bofd_addendum);
      endorser = omega (arith, count is_item_entry is_endorser_addendum);
      shown = omega (arith, count is_item_entry (λ t. eqb t 50));
    }
