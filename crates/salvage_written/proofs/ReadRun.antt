-- A run is read through behind a 01 and its header exactly where its records are good behind that header. Assumes nothing.
use Prim.Native.Nat.{ℕ, ◌+◌, ◌≤◌}
use native.Mathlib.Omega.{arith}
use mathlib.Core.Bool.{Bool, true, false, ◌&&◌, cond}
use mathlib.Core.Option.{none, some}
use mathlib.Core.Path.{◌≡◌, refl, sym, ap, ◌∙◌}
use mathlib.Core.List.{List, [], ◌∷◌, ◌++◌}
use lib.Dec.{leb, eqb}
use lib.ListN.{length, take, drop}
use borrow.Author.Tests.{eqb-true, ne_eqb, leb-true}
use Rattle.text.specs.declared.character_set.CharacterSet.{CharacterSet}
use Rattle.text.specs.Characters.{is_numeric}
use Rattle.text.specs.DataTypes.{every}
use Rattle.text.specs.Number.{number}
use Rattle.frame.specs.Unless.{unless}
use Rattle.judge.specs.Alone.{Judged}
use Rattle.judge.specs.Alone.{Sound, WrongLength, UnknownType, WrongField}
use Rattle.judge.specs.Alone.{type_of, judged_as, judged_record}
use Rattle.order.specs.MayFollow.{is_one_of, carried, is_carried}
use Rattle.measure.specs.declared.Records.{Records}
use Rattle.standing.specs.History.{Entry, entry}
use Rattle.standing.specs.Standing.{standing, onward}
use Rattle.standing.specs.declared.Standing.{Standing}
use Rattle.standing.proofs.Laws.{standing-onward}
use Rattle.agree.specs.Links.{link_fault}
use Rattle.agree.specs.Totals.{total_fault}
use Rattle.passes.specs.declared.Fault.TheVariants.{Place}
use Rattle.passes.specs.Answers.{Turn}
use Rattle.passes.specs.CheckOrder.{agreement, turn_of}
use Rattle.file_as_records.specs.Framed.{Body, framed}
use Rattle.file_as_records.proofs.Figures.{last_in, inside_in, stated_in, addenda_in}
use Rattle.file_as_records.proofs.Good.{Good, onto}
use Rattle.file_as_records.proofs.Held.{Held, extent, entries, over, stands}
use Rattle.file_as_records.proofs.Opened.{AllOpened, all-opened, in_item}
use Rattle.file_as_records.proofs.ReadThrough.{body_is, rest-is}
use Rattle.file_as_records.proofs.Steps.{turn-good, good_turn}
use Rattle.file_as_records.proofs.Tests.{both, refuted, not-both}
use Rattle.arrangement.specs.Sound.{All}
use Rattle.salvage_model.specs.Runs.{is_right, sound_alone, or_fault, read_on, run_fault}
use Rattle.same_bytes.proofs.Addenda.{GoodRun}
use Rattle.salvage_written.proofs.Carried.{Base}
use Rattle.salvage_written.proofs.Run.{Plain}
use Rattle.passes.specs.Answers as turns
use Rattle.measure.specs.Measures as measures

-- a carried record has its type in two characters
pub two-long : (set : CharacterSet) (b : Body) → is_carried (type_of set b) ≡ true → leb 2 (length b) ≡ true
unfolding type_of is_carried
two-long set b e = cases (leb 2 (length b)) e
  where
    cases : (c : Bool) → is_one_of (cond (c && every (is_numeric set) (take 2 b)) (number set (take 2 b)) 0) carried ≡ true → c ≡ true
    cases true e = refl
    cases false e = cc

-- a record that is sound alone
right-sound : (j : Judged) → is_right j ≡ true → j ≡ Sound
right-sound Sound e = refl
right-sound WrongLength e = absurd (not-both e)
right-sound UnknownType e = absurd (not-both e)
right-sound (WrongField n) e = absurd (not-both e)

pub record SoundAs (set : CharacterSet) (t : ℕ) (b : Body) : Type 0 where
  pub type : type_of set b ≡ t
  pub long : 2 ≤ length b
  pub right : judged_as set (type_of set b) b ≡ Sound

pub sound-as : (set : CharacterSet) (t : ℕ) (b : Body) → sound_alone set t b ≡ true → SoundAs set t b
unfolding sound_alone judged_record
sound-as set t b e =
    let two = both (eqb (type_of set b) t) (is_right (judged_record set b)) e in
    let kept = by (leb 2 (length b)) (right-sound (judged_record set b) two.1) in
    record { type = eqb-true (type_of set b) t two.0; long = leb-true 2 (length b) kept.0; right = kept.1 }
  where
    by : (c : Bool) → unless c WrongLength (judged_as set (type_of set b) b) ≡ Sound → (c ≡ true) × (judged_as set (type_of set b) b ≡ Sound)
    by true e = (refl, e)
    by false e = absurd (let z : ◌≡◌ {A = ℕ} 0 1 = cc in omega arith)

-- figures with another count of records
abbrev counting : Standing → Records → Standing
counting s n =
    record {
      last = s.last;
      inside = s.inside;
      present = s.present;
      holder = s.holder;
      records = n;
      letters = s.letters;
      bundles = s.bundles;
      opened = s.opened;
      items = s.items;
      ordinal = s.ordinal;
      whole = s.whole;
      letter = s.letter;
      bundle = s.bundle;
      micr = s.micr;
      addenda = s.addenda;
      bofd = s.bofd;
      endorser = s.endorser;
      shown = s.shown;
      stated = s.stated;
      item = s.item;
      header = s.header;
      heading = s.heading;
      indicator = s.indicator;
      signature = s.signature;
    }

-- the records read of a run, its header the oldest, and the 01 before that
abbrev entries_on : CharacterSet → List Body → List Entry
entries_on set [] = entry 1 0 0 ∷ []
entries_on set (b ∷ past) = entry (type_of set b) (extent past) (length b) ∷ entries_on set past

record Counted (s u : Standing) : Type 0 where
  records : Records
  is : s ≡ counting u records

module _ (set : CharacterSet) (file : List ℕ) (header : Body) (ten : type_of set header ≡ 10) where
  counted : (xs : List Body)
      → Counted (standing set file (entries_on set (xs ++ (header ∷ [])))) (standing set file (entries set (xs ++ (header ∷ []))))
  unfolding standing onward
  counted [] = record { records = measures.records 2; is = rw ten }
  counted (x ∷ xs) =
      let past = xs ++ (header ∷ []) in
      let c = counted xs in
      let t = type_of set x in
      let u = standing set file (entries set past) in
      record {
        records = (onward set file (counting u c.records) t (extent past)).records;
        is =
            standing-onward set file (entries_on set past) t (extent past) (length x)
            ∙ ap (λ (s : Standing). onward set file s t (extent past)) c.is
            ∙ ap (λ (s : Standing). counting s (onward set file (counting u c.records) t (extent past)).records)
            (sym (standing-onward set file (entries set past) t (extent past) (length x)));
      }

-- the count is asked at a 99 alone
turn-counted : (set : CharacterSet) (file : List ℕ) (s : Standing) (n : Records) (at : ℕ) (b : Body) → eqb (type_of set b) 99 ≡ false
    → turn_of set file (counting s n) at b ≡ turn_of set file s at b
unfolding turn_of agreement link_fault total_fault
turn-counted set file s n at b e = rw e

or-place : (c : Bool) → cond c (some Place) none ≡ none → c ≡ false
or-place true e = let z : ◌≡◌ {A = ℕ} 0 1 = cc in absurd (omega arith)
or-place false e = refl

-- what is known of a run that is read through
pub record GoodThrough (set : CharacterSet) (past bs : List Body) : Type 0 where
  pub good : GoodRun set past bs
  pub ends : last_in set (onto bs past) ≡ 50 → ⊥

module _ (set : CharacterSet) (file : List ℕ) (header : Body) (ten : type_of set header ≡ 10) where
  abbrev behind : List Body → List Body
  behind xs = xs ++ (header ∷ [])

  module _ (xs : List Body) (older : Held set file (behind xs)) where
    last-is : (standing set file (entries_on set (behind xs))).last ≡ last_in set (behind xs)
    last-is =
        ap (λ (s : Standing). s.last) (counted set file header ten xs).is ∙ ap (λ (s : Standing). s.last) (stands set file (behind xs) older)

    turn_is : (b : Body) → eqb (type_of set b) 99 ≡ false
        → turn_of set file (standing set file (entries_on set (behind xs))) (extent (behind xs)) b ≡ turn_of set file (over set (behind xs)) (extent (behind xs)) b
    turn_is b e =
        let c = counted set file header ten xs in
        let at = extent (behind xs) in
        ap (λ (s : Standing). turn_of set file s at b) c.is
        ∙ turn-counted set file (standing set file (entries set (behind xs))) c.records at b e
        ∙ ap (λ (s : Standing). turn_of set file s at b) (stands set file (behind xs) older)

    held_on : AllOpened set (behind xs) → (b : Body) (bs : List Body) → drop (extent (behind xs)) file ≡ framed (b ∷ bs) → Good set (behind xs) b
        → Held set file (behind (b ∷ xs)) × AllOpened set (behind (b ∷ xs)) × (drop (extent (behind (b ∷ xs))) file ≡ framed bs)
    held_on opened b bs e g = (
      (record { rest = framed bs; body = body_is file (extent (behind xs)) b (framed bs) e; sound = g.alone }, older),
      all-opened set b (behind xs) opened g.follows,
      rest-is file (extent (behind xs)) b (framed bs) e,
    )

  read-good : (bs xs : List Body) → Held set file (behind xs) → AllOpened set (behind xs) → drop (extent (behind xs)) file ≡ framed bs → All (Plain set) bs
      → read_on set file bs (extent (behind xs)) (entries_on set (behind xs)) ≡ none → GoodThrough set (behind xs) bs
  unfolding read_on
  read-good [] xs older opened e plain r =
      record {
        good = tt;
        ends = λ q.
            not-both
            (sym (or-place (eqb (standing set file (entries_on set (behind xs))).last 50) r)
            ∙ ap (λ (t : ℕ). eqb t 50) (last-is xs older ∙ q));
      }
  read-good (b ∷ bs) xs older opened e plain r =
      by (turn_of set file (standing set file (entries_on set (behind xs))) (extent (behind xs)) b) refl r
      (λ h o d q. read-good bs (b ∷ xs) h o d plain.1 q)
    where
      by : (turn : Turn) → turn_of set file (standing set file (entries_on set (behind xs))) (extent (behind xs)) b ≡ turn
          → or_fault turn (read_on set file bs (extent (behind (b ∷ xs))) (entries_on set (behind (b ∷ xs)))) ≡ none
          → (Held set file (behind (b ∷ xs)) → AllOpened set (behind (b ∷ xs)) → drop (extent (behind (b ∷ xs))) file ≡ framed bs
          → read_on set file bs (extent (behind (b ∷ xs))) (entries_on set (behind (b ∷ xs))) ≡ none → GoodThrough set (behind (b ∷ xs)) bs)
          → GoodThrough set (behind xs) (b ∷ bs)
      by (turns.Faulty fault) t r others = let z : ◌≡◌ {A = ℕ} 0 1 = cc in absurd (omega arith)
      by (turns.Good u) t r others =
          let good =
          turn-good set file (behind xs) older opened (extent (behind xs)) b (framed bs) (body_is file (extent (behind xs)) b (framed bs) e)
          (sym (turn_is xs older b plain.0.1) ∙ t) in
          let on = held_on xs older opened b bs e good in
          let later = others on.0 on.1 on.2 r in
          record { good = record { first = good; rest = later.good }; ends = later.ends }

  good-read : (bs xs : List Body) → Held set file (behind xs) → AllOpened set (behind xs) → drop (extent (behind xs)) file ≡ framed bs → All (Plain set) bs
      → GoodThrough set (behind xs) bs → read_on set file bs (extent (behind xs)) (entries_on set (behind xs)) ≡ none
  unfolding read_on
  good-read [] xs older opened e plain g =
      let not-50 : eqb (standing set file (entries_on set (behind xs))).last 50 ≡ false = ne_eqb _ 50 (λ q. g.ends (sym (last-is xs older) ∙ q)) in
      rw not-50
  good-read (b ∷ bs) xs older opened e plain g =
      let on = held_on xs older opened b bs e g.good.first in
      ap (λ (turn : Turn). or_fault turn (read_on set file bs (extent (behind (b ∷ xs))) (entries_on set (behind (b ∷ xs)))))
      (turn_is xs older b plain.0.1
      ∙ good_turn set file (behind xs) older opened (extent (behind xs)) b on.0.0 g.good.first)
      ∙ good-read bs (b ∷ xs) on.0 on.1 on.2 plain.1 (record { good = g.good.rest; ends = g.ends })

-- under a header that is sound alone
module _ (set : CharacterSet) (header : Body) (sound : SoundAs set 10 header) (bs : List Body) (plain : All (Plain set) bs) where
  header-held : Held set (framed (header ∷ bs)) (header ∷ [])
  header-held = (record { rest = framed bs; body = refl; sound = sound.right }, tt)

  header-opened : AllOpened set (header ∷ [])
  header-opened = record { item = λ e. refuted (in_item (type_of set header)) (rw sound.type) e; letter = λ e. rw sound.type }

  behind-header : drop (extent (header ∷ [])) (framed (header ∷ bs)) ≡ framed bs
  behind-header = rest-is (framed (header ∷ bs)) 0 header (framed bs) refl

  reads : run_fault set header bs ≡ read_on set (framed (header ∷ bs)) bs (extent (header ∷ [])) (entries_on set (header ∷ []))
  unfolding run_fault
  reads = ap (λ (t : ℕ). read_on set (framed (header ∷ bs)) bs (4 + length header) (entry t 0 (length header) ∷ entry 1 0 0 ∷ [])) (sym sound.type)

  pub through-good : run_fault set header bs ≡ none → GoodThrough set (header ∷ []) bs
  through-good e =
      read-good set (framed (header ∷ bs)) header sound.type bs [] header-held header-opened behind-header plain (sym reads ∙ e)

  pub good-through : GoodThrough set (header ∷ []) bs → run_fault set header bs ≡ none
  good-through g =
      reads ∙ good-read set (framed (header ∷ bs)) header sound.type bs [] header-held header-opened behind-header plain g

-- a header is all that a run asks for before it
pub base-header : (set : CharacterSet) (header : Body) (past : List Body) → type_of set header ≡ 10 → inside_in set past ≡ false
    → stated_in set past ≤ addenda_in set past → Base set header (header ∷ past)
base-header set header past ten outside settled =
    record {
      outside = rw ten outside;
      ready = rw ten;
      settled = rw ten (omega (arith, settled));
      unheld = rw ten;
      indicator = rw ten;
      heading = rw ten;
    }
