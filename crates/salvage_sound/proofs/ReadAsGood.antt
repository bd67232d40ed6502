-- A run is read through exactly where its records are good behind its header. Of the 01 before it nothing is looked at but that it is one record more,
-- and only a 99 states how many there are. Assumes nothing.
use Prim.Native.Nat.{ℕ, ◌+◌}
use mathlib.Core.Bool.{Bool, true, false, not, ◌||◌, cond}
use mathlib.Core.List.{List, [], ◌∷◌}
use mathlib.Core.Option.{Option, none, some}
use mathlib.Core.Path.{◌≡◌, refl, sym, ap, ◌∙◌}
use lib.Dec.{eqb}
use lib.ListN.{length, drop}
use borrow.Author.Tests.{eqb-true}
use Rattle.text.specs.declared.character_set.CharacterSet.{CharacterSet}
use Rattle.judge.specs.Alone.{type_of}
use Rattle.measure.specs.Measures as measures
use Rattle.order.specs.MayFollow.{table, follows, may_follow}
use Rattle.order.proofs.Pairs.{throughout, listed}
use Rattle.standing.specs.History.{Entry, entry}
use Rattle.standing.specs.Standing.{standing, onward}
use Rattle.standing.specs.declared.Standing.{Standing}
use Rattle.standing.proofs.Laws.{standing-onward}
use Rattle.agree.specs.Links.{link_fault}
use Rattle.agree.specs.Totals.{total_fault}
use Rattle.passes.specs.declared.Fault.{Fault}
use Rattle.passes.specs.declared.Fault.TheVariants.{Place}
use Rattle.passes.specs.Answers.{Turn}
use Rattle.passes.specs.Answers as turns
use Rattle.passes.specs.CheckOrder.{agreement, turn_of}
use Rattle.file_as_records.specs.Framed.{Body, framed}
use Rattle.file_as_records.proofs.Figures.{last_in}
use Rattle.file_as_records.proofs.Good.{Good, GoodTo}
use Rattle.file_as_records.proofs.Held.{HeldAt, Held, extent, entries, over, stands}
use Rattle.file_as_records.proofs.Opened.{AllOpened, all-opened}
use Rattle.file_as_records.proofs.ReadThrough.{body_is, rest-is}
use Rattle.file_as_records.proofs.Steps.{turn-good, good_turn}
use Rattle.file_as_records.proofs.Tests.{refuted}
use Rattle.salvage_model.specs.Runs.{or_fault, read_on}

-- the figures with one record more before all others, one that none of them is taken from
abbrev more : Standing → Standing
more s =
    record {
      last = s.last;
      inside = s.inside;
      present = s.present;
      holder = s.holder;
      records = measures.records (s.records.0 + 1);
      letters = s.letters;
      bundles = s.bundles;
      opened = s.opened;
      items = s.items;
      ordinal = s.ordinal;
      whole = s.whole;
      letter = s.letter;
      bundle = s.bundle;
      micr = s.micr;
      addenda = s.addenda;
      bofd = s.bofd;
      endorser = s.endorser;
      shown = s.shown;
      stated = s.stated;
      item = s.item;
      header = s.header;
      heading = s.heading;
      indicator = s.indicator;
      signature = s.signature;
    }

abbrev pub Behind01 : CharacterSet → List ℕ → List Entry → List Body → Type 0
Behind01 set file es past = standing set file es ≡ more (standing set file (entries set past))

onward-more : (set : CharacterSet) (file : List ℕ) (s : Standing) (t offset : ℕ) → onward set file (more s) t offset ≡ more (onward set file s t offset)
unfolding onward
onward-more set file s t offset = refl

-- behind the 01 and the 10
pub begun : (set : CharacterSet) (file : List ℕ) (header : Body) → type_of set header ≡ 10
    → Behind01 set file (entry 10 0 (length header) ∷ entry 1 0 0 ∷ []) (header ∷ [])
unfolding standing
begun set file header k = rw k

-- and behind one record more
behind_more : (set : CharacterSet) (file : List ℕ) (es : List Entry) (past : List Body) (b : Body) → Behind01 set file es past
    → Behind01 set file (entry (type_of set b) (extent past) (length b) ∷ es) (b ∷ past)
behind_more set file es past b e =
    standing-onward set file es (type_of set b) (extent past) (length b)
    ∙ ap (λ (s : Standing). onward set file s (type_of set b) (extent past)) e
    ∙ onward-more set file (standing set file (entries set past)) (type_of set b) (extent past)
    ∙ ap more (sym (standing-onward set file (entries set past) (type_of set b) (extent past) (length b)))

-- a 99 comes behind a 90 alone
abbrev only_after90 : ℕ → ℕ → Bool
only_after90 last next = not (eqb next 99) || eqb last 90

pub no-99 : (opened : Bool) (last : ℕ) → eqb last 90 ≡ false → follows opened last 99 ≡ false
unfolding follows
no-99 opened last e = cases (follows opened last 99) refl
  where
    in-table : (opened : Bool) → throughout only_after90 (table opened) ≡ true
    in-table true = refl
    in-table false = refl

    cases : (c : Bool) → follows opened last 99 ≡ c → c ≡ false
    cases true f = refuted (eqb last 90) e (listed only_after90 last 99 (table opened) (in-table opened) f)
    cases false f = refl

module _ (set : CharacterSet) (file : List ℕ) (s : Standing) (at : ℕ) (b : Body) (behind : eqb s.last 90 ≡ false) where
  turn_more : turn_of set file (more s) at b ≡ turn_of set file s at b
  unfolding turn_of agreement total_fault link_fault may_follow
  turn_more = by_place (eqb (type_of set b) 99) refl
    where
      by_place : (c : Bool) → eqb (type_of set b) 99 ≡ c → turn_of set file (more s) at b ≡ turn_of set file s at b
      by_place true e = let t = eqb-true (type_of set b) 99 e in rw (t, no-99 s.inside s.last behind)
      by_place false e = rw e

-- read on to the end
record Through (t : Turn) (next : Option Fault) : Type 0 where
  type : ℕ
  good : t ≡ turns.Good type
  on : next ≡ none

through : (t : Turn) (next : Option Fault) → or_fault t next ≡ none → Through t next
through (turns.Faulty fault) next e = record { type = 0; good = cc; on = cc }
through (turns.Good t) next e = record { type = t; good = refl; on = e }

-- no 90 stands in what is read, as far as it is good
abbrev pub Stays : CharacterSet → List Body → List Body → Type 0
Stays set past [] = Unit {0}
Stays set past (b ∷ bs) = (eqb (last_in set past) 90 ≡ false) × (Good set past b → Stays set (b ∷ past) bs)

-- "PLACE where a 61's run ends behind a 50"
abbrev pub NotBehind50 : CharacterSet → List Body → Type 0
NotBehind50 set past = eqb (last_in set past) 50 ≡ false

not-place : (c : Bool) → cond c (some Place) none ≡ none → c ≡ false
not-place true e = cc
not-place false e = refl

module _ (set : CharacterSet) (file : List ℕ) where
  module _ (past : List Body) (es : List Entry) (older : Held set file past) (behind : Behind01 set file es past) where
    last-is : (standing set file es).last ≡ last_in set past
    last-is = ap (λ (s : Standing). s.last) behind ∙ ap (λ (s : Standing). s.last) (stands set file past older)

    turn_is : (b : Body) → eqb (last_in set past) 90 ≡ false
        → turn_of set file (standing set file es) (extent past) b ≡ turn_of set file (over set past) (extent past) b
    turn_is b h =
        ap (λ (s : Standing). turn_of set file s (extent past) b) (behind ∙ ap more (stands set file past older))
        ∙ turn_more set file (over set past) (extent past) b h

  pub read-good : (bs past : List Body) (es : List Entry) → Held set file past → AllOpened set past → drop (extent past) file ≡ framed bs
      → Stays set past bs → Behind01 set file es past → read_on set file bs (extent past) es ≡ none → GoodTo (NotBehind50 set) set past bs
  unfolding read_on
  read-good [] past es older opened bytes stays behind e = not-place (eqb (last_in set past) 50) (rw (last-is past es older behind) at e)
  read-good (b ∷ bs) past es older opened bytes stays behind e =
      let t = through (turn_of set file (over set past) (extent past) b) _ (rw (turn_is past es older behind b stays.0) at e) in
      let body = body_is file (extent past) b (framed bs) bytes in
      let good = turn-good set file past older opened (extent past) b (framed bs) body t.good in
      let held : HeldAt set file (extent past) b = record { rest = framed bs; body = body; sound = good.alone } in
      record {
        first = good;
        rest =
            read-good bs (b ∷ past) (entry (type_of set b) (extent past) (length b) ∷ es) (held, older) (all-opened set b past opened good.follows)
            (rest-is file (extent past) b (framed bs) bytes) (stays.1 good) (behind_more set file es past b behind) t.on;
      }

  pub good-read : (bs past : List Body) (es : List Entry) → Held set file past → AllOpened set past → drop (extent past) file ≡ framed bs
      → Stays set past bs → Behind01 set file es past → GoodTo (NotBehind50 set) set past bs → read_on set file bs (extent past) es ≡ none
  unfolding read_on
  good-read [] past es older opened bytes stays behind good = rw (last-is past es older behind, good)
  good-read (b ∷ bs) past es older opened bytes stays behind good =
      let held : HeldAt set file (extent past) b =
      record { rest = framed bs; body = body_is file (extent past) b (framed bs) bytes; sound = good.first.alone } in
      let turn =
      turn_is past es older behind b stays.0 ∙ good_turn set file past older opened (extent past) b held good.first in
      rw turn
      (good-read bs (b ∷ past) (entry (type_of set b) (extent past) (length b) ∷ es) (held, older) (all-opened set b past opened good.first.follows)
      (rest-is file (extent past) b (framed bs) bytes) (stays.1 good.first) (behind_more set file es past b behind) good.rest)
