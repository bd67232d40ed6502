-- A run read where it stands, behind a 01 and its header and nothing else, and read in a file of its header and its own records alone, are the same.
-- Assumes nothing.
use Prim.Native.Nat.{ℕ, ◌+◌, ◌≤◌, ◌<◌}
use native.Mathlib.Omega.{arith}
use mathlib.Core.Bool.{Bool, true, false, ◌&&◌, cond, and-eq-true_iff}
use mathlib.Core.List.{List, [], ◌∷◌, ◌++◌}
use mathlib.Core.Option.{Option, none, some}
use mathlib.Core.Path.{◌≡◌, refl, sym, ap, ap₂, ◌∙◌, subst}
use lib.Dec.{leb, eqb}
use lib.ListN.{length, take, drop}
use lib.Seq.{take-take, drop-drop, take-append-le, drop-append-add, drop-append_seam}
use borrow.Author.Tests.{eqb-true, le-leb, lt-leb, eq-eqb, ne_eqb}
use Rattle.std.specs.Prelude.{is_ok}
use Rattle.text.specs.declared.character_set.CharacterSet.{CharacterSet}
use Rattle.frame.specs.Frames.{part}
use Rattle.frame.specs.Unless.{unless}
use Rattle.judge.specs.Alone.{Judged}
use Rattle.judge.specs.Alone.{Sound, WrongLength, UnknownType, WrongField}
use Rattle.judge.specs.Alone.{type_of, judged_as, judged_record}
use Rattle.order.specs.MayFollow.{is_item, is_carried, may_follow}
use Rattle.standing.specs.History.{Entry, entry}
use Rattle.standing.specs.Standing.{standing, onward, capped_figures, Roomy}
use Rattle.standing.specs.declared.Standing.{Standing}
use Rattle.standing.proofs.Laws.{standing-onward, onward-capped, figures-capped, roomy}
use Rattle.passes.specs.declared.Fault.{Fault}
use Rattle.passes.specs.declared.Fault.TheVariants.{Length, Place}
use Rattle.passes.specs.Answers.{Turn}
use Rattle.passes.specs.Answers.{Faulty, Good}
use Rattle.passes.specs.CheckOrder.{unless_alone, agreement, turn_of}
use Rattle.passes.proofs.Passed.{passed}
use Rattle.passes.proofs.Capped.{agreement-capped}
use Rattle.file_as_records.specs.Framed.{Body, length_field, framed}
use Rattle.ascii_copy.proofs.SoundCharacters.{width_of, sound-long}
use Rattle.alike.proofs.Alike.{AlikeAt, narrower}
use Rattle.alike.proofs.Figures.{placed, onward-alike}
use Rattle.alike.proofs.Agreement.{Compared, agreement-placed, item-wide, wide-as}
use Rattle.own_fault.proofs.SameBefore.{Same, law}
use Rattle.salvage_model.specs.Runs.{is_right, sound_alone, or_fault, read_on, run_fault}
use Rattle.salvage_walk.specs.declared.Seen.{Seen}
use Rattle.salvage_walk.specs.Spans.{Stands, Spans, SeenAs}
use Rattle.salvage_walk.proofs.Sorts.{First, first_of, none_left}
use Rattle.salvage_runs.specs.Places.{placed_at}
use Rattle.salvage_runs.specs.RunAt.{read_through, RunAt}
use Rattle.passes.specs.declared.Fault.TheVariants as faults

-- the first bytes of a record in the little file and where it stands
record-alike : (little file : List ℕ) (small at : ℕ) (b rest : List ℕ) → drop (small + 4) little ≡ b ++ rest → Stands file at b → (w : ℕ) → w ≤ length b
    → AlikeAt Same little file small at w
record-alike little file small at b rest e s w h = record {
  same =
      sym (take-take w (length b) (drop (at + 4) file) h)
      ∙ ap (take w) s.body
      ∙ sym (ap (take w) e ∙ take-append-le w b rest h);
}

-- a record with nothing wrong
pub right-ok : (j : Judged) → is_ok j ≡ is_right j
right-ok Sound = refl
right-ok WrongLength = refl
right-ok UnknownType = refl
right-ok (WrongField n) = refl

-- a record alone
module _ (set : CharacterSet) (t : ℕ) (b : Body) where
  pub alone-short : length b < 2 → false ≡ sound_alone set t b
  unfolding sound_alone judged_record
  alone-short h = rw (lt-leb 2 (length b) h) (by (eqb (type_of set b) t))
    where
      by : (c : Bool) → false ≡ c && false
      by true = refl
      by false = refl

  pub alone-other : (type_of set b ≡ t → ⊥) → false ≡ sound_alone set t b
  unfolding sound_alone
  alone-other e = rw (ne_eqb (type_of set b) t e)

  pub alone-judged : 2 ≤ length b → type_of set b ≡ t → (j : Judged) → judged_as set (type_of set b) b ≡ j → is_right j ≡ sound_alone set t b
  unfolding sound_alone judged_record
  alone-judged h e j q = rw (le-leb 2 (length b) h, eq-eqb (type_of set b) t e, q)

-- a header that is sound alone
module _ (set : CharacterSet) (b : Body) (e : sound_alone set 10 b ≡ true) where
  sound-type : type_of set b ≡ 10
  unfolding sound_alone
  sound-type = eqb-true (type_of set b) 10 ((and-eq-true_iff (eqb (type_of set b) 10) (is_right (judged_record set b))).0 e).0

  sound-judged : judged_as set 10 b ≡ Sound
  unfolding sound_alone judged_record
  sound-judged =
      rw sound-type at
      (by (leb 2 (length b)) (judged_as set (type_of set b) b)
      ((and-eq-true_iff (eqb (type_of set b) 10) (is_right (judged_record set b))).0 e).1)
    where
      by : (c : Bool) (j : Judged) → is_right (unless c WrongLength j) ≡ true → j ≡ Sound
      by true Sound q = refl
      by true WrongLength q = cc
      by true UnknownType q = cc
      by true (WrongField n) q = cc
      by false j q = cc

  pub sound-wide : 80 ≤ length b
  sound-wide = omega (arith, sound-long set 10 b sound-judged)

-- what one record does to figures that are the same but for places
module _ (set : CharacterSet) (little file : List ℕ) (past : List Entry) (s : Standing) (i h g : ℕ)
    (figures : s ≡ placed (capped_figures (standing set little past)) i h g) (t small at n : ℕ) (own : AlikeAt Same little file small at (width_of t)) where
  figures-move : capped_figures (onward set file s t at)
      ≡ placed (capped_figures (standing set little (entry t small n ∷ past))) (cond (is_item t) at i) (cond (eqb t 20) at h) (cond (eqb t 10) at g)
  figures-move =
      let places : Standing → Standing = λ u. placed u (cond (is_item t) at i) (cond (eqb t 20) at h) (cond (eqb t 10) at g) in
      ap (λ (u : Standing). capped_figures (onward set file u t at)) figures
      ∙ ap capped_figures (onward-alike (law set) (capped_figures (standing set little past)) i h g t own)
      ∙ ap places (onward-capped set little (standing set little past) t small)
      ∙ ap (λ (u : Standing). places (capped_figures u)) (sym (standing-onward set little past t small n))

  module _ (over : Compared Same little file (standing set little past) i h g) where
    compared-move : Compared Same little file (standing set little (entry t small n ∷ past)) (cond (is_item t) at i) (cond (eqb t 20) at h) (cond (eqb t 10) at g)
    unfolding standing
    compared-move = record {
      item = by (is_item t) (item-wide t) over.item;
      header = by (eqb t 20) (λ e. wide-as t 20 e (omega arith)) over.header;
      heading = by (eqb t 10) (λ e. wide-as t 10 e (omega arith)) over.heading;
    }
      where
        by : (c : Bool) → (c ≡ true → 80 ≤ width_of t) → {o o' : ℕ} → AlikeAt Same little file o o' 80
            → AlikeAt Same little file (cond c small o) (cond c at o') 80
        by true wide a = narrower (law set) own 80 (wide refl)
        by false wide a = a

-- the same turn
under : (c : Bool) (fault : Fault) {x y : Turn} → (c ≡ true → x ≡ y) → unless c (Faulty fault) x ≡ unless c (Faulty fault) y
under true fault h = h refl
under false fault h = refl

module _ (set : CharacterSet) (little file : List ℕ) (past : List Entry) (i h g : ℕ) (over : Compared Same little file (standing set little past) i h g)
    (small at : ℕ) (b rest : List ℕ) (there : drop (small + 4) little ≡ b ++ rest) (stands : Stands file at b) where
  turn-placed : turn_of set file (placed (capped_figures (standing set little past)) i h g) at b ≡ turn_of set little (standing set little past) small b
  unfolding turn_of
  turn-placed =
      under (leb 2 (length b)) Length
      (λ _. under (is_carried (type_of set b)) faults.UnknownType
      (λ _. under (may_follow (standing set little past).inside (standing set little past).last (standing set little past).present (type_of set b)) Place
      (λ _. alone (judged_as set (type_of set b) b) refl)))
    where
      alone : (j : Judged) → judged_as set (type_of set b) b ≡ j
          → unless_alone j (agreement set file (placed (capped_figures (standing set little past)) i h g) at (type_of set b))
          ≡ unless_alone j (agreement set little (standing set little past) small (type_of set b))
      alone Sound e =
          agreement-placed (law set) (capped_figures (standing set little past)) i h g (type_of set b)
          (record-alike little file small at b rest there stands (width_of (type_of set b)) (sound-long set (type_of set b) b e))
          (λ _. record { item = over.item; header = over.header; heading = over.heading })
          ∙ agreement-capped set (standing set little past) little small (type_of set b)
      alone WrongLength e = refl
      alone UnknownType e = refl
      alone (WrongField n) e = refl

roomy-placed : (s : Standing) (i h g : ℕ) → Roomy s → Roomy (placed s i h g)
roomy-placed s i h g r = record {
  records = r.records;
  letters = r.letters;
  bundles = r.bundles;
  opened = r.opened;
  items = r.items;
  ordinal = r.ordinal;
  whole = r.whole;
  letter = r.letter;
  bundle = r.bundle;
  micr = r.micr;
  addenda = r.addenda;
  bofd = r.bofd;
  endorser = r.endorser;
  shown = r.shown;
}

-- figures of few records
pub few-move : (set : CharacterSet) (file : List ℕ) (past : List Entry) (s : Standing) → s ≡ capped_figures (standing set file past) → length past ≤ 2
    → Roomy s × (capped_figures s ≡ s)
few-move set file past s e h = (subst Roomy (sym e) (roomy set file past (omega arith)), figures-capped s (standing set file past) e)

module _ (set : CharacterSet) (file : List ℕ) (header_at from end : ℕ) where
  abbrev pub little_of : RunAt set file header_at from end → List ℕ
  little_of w = framed (w.header ∷ w.bodies)

  -- at the head of the loop: what is left of the run
  pub record Reading (w : RunAt set file header_at from end) (s : Standing) (at : ℕ) : Type 0 where
    pub past : List Entry
    pub left : List Body
    pub small : ℕ
    pub item : ℕ
    pub header : ℕ
    pub heading : ℕ
    pub same : run_fault set w.header w.bodies ≡ read_on set (little_of w) left small past
    pub spans : Spans file at left end
    pub there : drop small (little_of w) ≡ framed left
    pub figures : s ≡ placed (capped_figures (standing set (little_of w) past)) item header heading
    pub over : Compared Same (little_of w) file (standing set (little_of w) past) item header heading
    pub few : length past ≤ at + 2

  abbrev pub Reads : Standing → ℕ → Type 0
  Reads s at = (w : RunAt set file header_at from end) → Reading w s at

  pub reads_first : (s : Standing)
      → s ≡ placed_at (capped_figures (onward set file (capped_figures (onward set file (capped_figures (standing set file [])) 1 header_at)) 10 header_at)) header_at
      → Reads s from
  unfolding run_fault standing
  reads_first s e w =
      let little : List ℕ = little_of w in
      let wide = sound-wide set w.header w.sound in
      let own : (n : ℕ) → n ≤ 80 → AlikeAt Same little file 0 header_at n =
      λ n h. record-alike little file 0 header_at w.header (framed w.bodies) refl w.stands n (omega arith) in
      let first = figures-move set little file [] (capped_figures (standing set file [])) 0 0 0 refl 1 0 header_at 0 (own 80 (omega arith)) in
      let second =
      figures-move set little file (entry 1 0 0 ∷ []) (capped_figures (onward set file (capped_figures (standing set file [])) 1 header_at)) 0 0 0 first 10 0
      header_at (length w.header) (own 80 (omega arith)) in
      record {
        past = entry 10 0 (length w.header) ∷ entry 1 0 0 ∷ [];
        left = w.bodies;
        small = 4 + length w.header;
        item = header_at;
        header = header_at;
        heading = header_at;
        same = refl;
        spans = w.spans;
        there =
            drop-append-add (length_field (length w.header)) (w.header ++ framed w.bodies) (length w.header)
            ∙ drop-append_seam w.header (framed w.bodies);
        figures = e ∙ ap (λ (u : Standing). placed_at u header_at) second;
        over = record { item = own 80 (omega arith); header = own 80 (omega arith); heading = own 80 (omega arith) };
        few = omega arith;
      }

  module _ {s : Standing} {at : ℕ} (v : Reads s at) (w : RunAt set file header_at from end) where
    pub reads-roomy : at ≤ end → Roomy s
    reads-roomy h =
        let r = v w in
        subst Roomy (sym r.figures)
        (roomy-placed (capped_figures (standing set (little_of w) r.past)) r.item r.header r.heading
        (roomy set (little_of w) r.past (omega (arith, r.few, w.limit))))

    pub reads-capped : capped_figures s ≡ s
    reads-capped =
        let r = v w in
        figures-capped s (placed (standing set (little_of w) r.past) r.item r.header r.heading) r.figures

    pub reads_end : end ≤ at → read_through (cond (eqb s.last 50) (some Place) none) ≡ read_through (run_fault set w.header w.bodies)
    unfolding read_on
    reads_end h =
        let r = v w in
        let gone = none_left file at r.left end r.spans h in
        let last : s.last ≡ (standing set (little_of w) r.past).last = ap (λ (u : Standing). u.last) r.figures in
        sym (ap read_through (r.same ∙ ap (λ (bs : List Body). read_on set (little_of w) bs r.small r.past) gone.0)
        ∙ ap (λ (n : ℕ). read_through (cond (eqb n 50) (some Place) none)) (sym last))

    module _ (h : at < end) (seen : Seen) (told : (b : Body) → Stands file at b → SeenAs set at b seen) (body : List ℕ)
        (is : body ≡ part seen.start seen.size file) (turn : Turn) (judged : turn ≡ turn_of set file s at body) where
      abbrev here : First file at (v w).left end
      here = first_of file at (v w).left end (v w).spans h

      body_is : body ≡ here.body
      body_is =
          let as_seen = told here.body here.stands in
          is ∙ ap₂ (λ (m n : ℕ). part m n file) as_seen.start as_seen.size ∙ here.stands.body

      behind-length : drop ((v w).small + 4) (little_of w) ≡ here.body ++ framed here.others
      behind-length = sym (drop-drop 4 (v w).small (little_of w)) ∙ ap (drop 4) ((v w).there ∙ ap framed here.is)

      turn-here : turn ≡ turn_of set (little_of w) (standing set (little_of w) (v w).past) (v w).small here.body
      turn-here =
          judged ∙ ap (turn_of set file s at) body_is ∙ ap (λ (u : Standing). turn_of set file u at here.body) (v w).figures
          ∙ turn-placed set (little_of w) file (v w).past (v w).item (v w).header (v w).heading (v w).over (v w).small at here.body
          (framed here.others) behind-length here.stands

      abbrev further : Option Fault
      further =
          read_on set (little_of w) here.others ((v w).small + 4 + length here.body)
          (entry (type_of set here.body) (v w).small (length here.body) ∷ (v w).past)

      read_here : run_fault set w.header w.bodies ≡ or_fault turn further
      unfolding read_on
      read_here =
          (v w).same ∙ ap (λ (bs : List Body). read_on set (little_of w) bs (v w).small (v w).past) here.is
          ∙ ap (λ (x : Turn). or_fault x further) (sym turn-here)

      pub reads-fault : (fault : Fault) → turn ≡ Faulty fault → run_fault set w.header w.bodies ≡ some fault
      reads-fault fault e = read_here ∙ ap (λ (x : Turn). or_fault x further) e

      pub reads_on : (t : ℕ) → turn ≡ Good t → (s' : Standing) → s' ≡ capped_figures (onward set file s t at) → Reading w s' seen.next
      reads_on t e s' m =
          let p = passed set (sym turn-here ∙ e) in
          let type : t ≡ type_of set here.body = sym p.type in
          let as_seen = told here.body here.stands in
          let own : AlikeAt Same (little_of w) file (v w).small at (width_of (type_of set here.body)) =
          record-alike (little_of w) file (v w).small at here.body (framed here.others) behind-length here.stands
          (width_of (type_of set here.body)) (sound-long set (type_of set here.body) here.body p.alone) in
          record {
            past = entry (type_of set here.body) (v w).small (length here.body) ∷ (v w).past;
            left = here.others;
            small = (v w).small + 4 + length here.body;
            item = cond (is_item (type_of set here.body)) at (v w).item;
            header = cond (eqb (type_of set here.body) 20) at (v w).header;
            heading = cond (eqb (type_of set here.body) 10) at (v w).heading;
            same = read_here ∙ ap (λ (x : Turn). or_fault x further) e;
            spans = rw as_seen.next here.spans;
            there =
                sym (drop-drop (length here.body) ((v w).small + 4) (little_of w))
                ∙ ap (drop (length here.body)) behind-length
                ∙ drop-append_seam here.body (framed here.others);
            figures =
                m ∙ ap (λ (k : ℕ). capped_figures (onward set file s k at)) type
                ∙ figures-move set (little_of w) file (v w).past s (v w).item (v w).header (v w).heading (v w).figures (type_of set here.body)
                (v w).small at (length here.body) own;
            over =
                compared-move set (little_of w) file (v w).past s (v w).item (v w).header (v w).heading (v w).figures (type_of set here.body)
                (v w).small at (length here.body) own (v w).over;
            few = omega (arith, (v w).few, as_seen.next);
          }
