-- A completed record, judged alone as the reader judges it. Assumes nothing.
use Prim.Native.Nat.{ℕ, ◌+◌, ◌-◌, ◌≤◌, ◌<◌, min}
use native.Mathlib.Omega.{arith}
use mathlib.Core.Bool.{Bool, true, false, ◌&&◌, ◌||◌, not, cond}
use mathlib.Core.List.{List, [], ◌∷◌, ◌++◌, map, append_assoc}
use mathlib.Core.Path.{◌≡◌, refl, ap, ap₂, sym, ◌∙◌}
use borrow.Author.Tests.{eqb-true, eq-eqb, eqb-false, leb-true, le-leb, ltb-true, lt-ltb, not-true}
use lib.Dec.{leb, ltb, eqb}
use lib.ListN.{length, take, drop, length-take, length-drop, get_or-append}
use lib.Seq.{take_at, drop_at, take-append-le, drop-append-le, drop-append-add}
use Rattle.text.specs.declared.character_set.CharacterSet.{CharacterSet}
use Rattle.text.specs.declared.character_set.CharacterSet.TheVariants.{Ascii}
use Rattle.text.specs.declared.data_types.DataType.{DataType}
use Rattle.text.specs.DataTypes.{of_type}
use Rattle.text.specs.Number.{number}
use Rattle.field.specs.declared.Usage.{Usage}
use Rattle.field.specs.declared.Usage.TheVariants.{Mandatory, Conditional}
use Rattle.field.specs.declared.Rule.{Rule}
use Rattle.field.specs.declared.Rule.TheVariants.{DataTypeAlone, Numbers, AllDigits, OneOrTwoDigits, StandardLevel, CollectionType, BundleCollectionType, SourceOfWork, Code, Date, HoursMinutes, HoursMinutesSeconds, Routing, ClippingCoordinate}
use Rattle.field.specs.Rules.{follows, meets, holds}
use Rattle.decimal.specs.Digits.{digits, fits}
use Rattle.decimal.proofs.Laws.{digits_long, digits-numeric, digits-states}
use Rattle.frame.specs.Frames.{part}
use Rattle.layout.specs.declared.packing.Origin.{Origin}
use Rattle.layout.specs.declared.packing.Origin.TheVariants.{Given, TypeNumber, PartSize, AddendumCount, RecordNumber, DebitCount, DebitCents, MicrCents, ViewCount, CreditCount, CreditCents, BundleCount, LetterCount, RecordCount, ItemCount}
use Rattle.layout.specs.Layout.{Line, Layout, Sized, sized_parts}
use Rattle.layout.specs.Layouts.{layouts}
use Rattle.layout.specs.Packing.{origin_of}
use Rattle.judge.specs.Alone.{Sound}
use Rattle.judge.specs.Alone.{line_holds, first_wrong, stated_size, stated_sizes, first_wrong_part, is_variable, unless_field, judged, alone, type_of, among_layouts, judged_as}
use Rattle.judge.proofs.Laws.{both_true}
use Rattle.order.specs.MayFollow.{is_one_of, is_carried}
use Rattle.standing.specs.declared.Standing.{Standing}
use Rattle.standing.specs.Standing.{capped_figures}
use Rattle.draft.specs.Values.{Piece, Values, layout_among, layout_of}
use Rattle.draft.specs.Completed.{size_of, is_here, characters_of, part_sized_at, own_statement, fixed_part, all_parts, all_sizes, completed, first_unfit, first_unfit_part, lower}
use Rattle.draft.specs.Drafted.{field_fault}
use Rattle.draft.specs.Promises.{every_here}
use Rattle.draft.proofs.Own.{every-layout, numbers_of}
use Rattle.draft.proofs.Shapes.{Shaped, given_sizes, right-line, piece-long, front, fixed-long, completed-long}

-- an origin by its number in the code's table
abbrev code_of : Origin → ℕ
code_of Given = 0
code_of TypeNumber = 1
code_of PartSize = 2
code_of AddendumCount = 3
code_of RecordNumber = 4
code_of DebitCount = 5
code_of DebitCents = 6
code_of MicrCents = 7
code_of ViewCount = 8
code_of CreditCount = 9
code_of CreditCents = 10
code_of BundleCount = 11
code_of LetterCount = 12
code_of RecordCount = 13
code_of ItemCount = 14

origin-again : (o : Origin) → origin_of (code_of o) ≡ o
origin-again Given = refl
origin-again TypeNumber = refl
origin-again PartSize = refl
origin-again AddendumCount = refl
origin-again RecordNumber = refl
origin-again DebitCount = refl
origin-again DebitCents = refl
origin-again MicrCents = refl
origin-again ViewCount = refl
origin-again CreditCount = refl
origin-again CreditCents = refl
origin-again BundleCount = refl
origin-again LetterCount = refl
origin-again RecordCount = refl
origin-again ItemCount = refl

is-origin : (o : Origin) (n : ℕ) → eqb (code_of o) n ≡ true → o ≡ origin_of n
is-origin o n e = sym (origin-again o) ∙ ap origin_of (eqb-true (code_of o) n e)

-- a layout's first line is the type, in two digits
abbrev type_first : List Line → Bool
type_first [] = false
type_first (l ∷ ls) = eqb (code_of l.origin) 1 && eqb l.size 2

module _ (v : Values) (addenda : ℕ) (s : Standing) where
  type-first : (ls : List Line) (ps : List Piece) (rest : List ℕ) → type_first ls ≡ true → take 2 (fixed_part v addenda s ls ps ++ rest) ≡ digits 2 v.type
  unfolding fixed_part
  type-first [] ps rest e = let z : ◌≡◌ {A = ℕ} 0 1 = cc in absurd (omega arith)
  type-first (l ∷ ls) ps rest e =
      let both = both_true (eqb (code_of l.origin) 1) (eqb l.size 2) e in
      rw (is-origin l.origin 1 both.0, eqb-true l.size 2 both.1, append_assoc)
      (take_at (digits 2 v.type) (fixed_part v addenda s ls ps ++ rest) 2 (digits_long 2 v.type))

module _ (v : Values) (addenda : ℕ) (s : Standing) where
  pub completed-front : take 2 (completed v addenda s) ≡ digits 2 v.type
  unfolding completed
  completed-front =
      type-first v addenda (capped_figures s) (layout_of v.type).lines v.fields (all_parts v.parts) (every-layout (λ k. type_first k.lines) v.type refl)

  pub completed-type : v.type < 100 → type_of Ascii (completed v addenda s) ≡ v.type
  unfolding type_of fits
  completed-type h =
      let long : 2 ≤ length (completed v addenda s) =
      omega (arith, length-take 2 (completed v addenda s), ap length completed-front, digits_long 2 v.type) in
      rw (le-leb 2 (length (completed v addenda s)) long, completed-front, digits-numeric 2 v.type)
      (digits-states 2 v.type (omega arith) (lt-ltb v.type 100 h))

-- computed of the layouts: no line looks past the fixed part
abbrev looks_within : ℕ → Rule → Bool
looks_within n DataTypeAlone = true
looks_within n (Numbers low high) = true
looks_within n AllDigits = true
looks_within n OneOrTwoDigits = true
looks_within n StandardLevel = true
looks_within n CollectionType = true
looks_within n BundleCollectionType = true
looks_within n SourceOfWork = true
looks_within n (Code list) = true
looks_within n Date = true
looks_within n HoursMinutes = true
looks_within n HoursMinutesSeconds = true
looks_within n (Routing forms) = true
looks_within n (ClippingCoordinate origin) = ltb origin n

abbrev lines_within : ℕ → List Line → Bool
lines_within n [] = true
lines_within n (l ∷ ls) = leb (l.first - 1 + l.size) n && (looks_within n l.rule && lines_within n ls)

module _ (fixed rest : List ℕ) where
  part-front : (start size : ℕ) → start + size ≤ length fixed → part start size (fixed ++ rest) ≡ part start size fixed
  part-front start size h =
      let long : size ≤ length (drop start fixed) = simp length-drop (omega arith) in
      ap (take size) (drop-append-le start fixed rest (omega arith)) ∙ take-append-le size (drop start fixed) rest long

  follows-front : (rule : Rule) (xs : List ℕ) → looks_within (length fixed) rule ≡ true → follows Ascii rule xs (fixed ++ rest) ≡ follows Ascii rule xs fixed
  unfolding follows
  follows-front DataTypeAlone xs e = refl
  follows-front (Numbers low high) xs e = refl
  follows-front AllDigits xs e = refl
  follows-front OneOrTwoDigits xs e = refl
  follows-front StandardLevel xs e = refl
  follows-front CollectionType xs e = refl
  follows-front BundleCollectionType xs e = refl
  follows-front SourceOfWork xs e = refl
  follows-front (Code list) xs e = refl
  follows-front Date xs e = refl
  follows-front HoursMinutes xs e = refl
  follows-front HoursMinutesSeconds xs e = refl
  follows-front (Routing forms) xs e = refl
  follows-front (ClippingCoordinate origin) xs e = rw (get_or-append fixed rest 0 origin (ltb-true origin (length fixed) e))

  holds-front : (usage : Usage) (t : DataType) (rule : Rule) (xs : List ℕ) → looks_within (length fixed) rule ≡ true
      → holds Ascii usage t rule xs (fixed ++ rest) ≡ holds Ascii usage t rule xs fixed
  unfolding holds meets
  holds-front Mandatory t rule xs e = rw (follows-front rule xs e)
  holds-front Conditional t rule xs e = rw (follows-front rule xs e)

  lines-front : (ls : List Line) → lines_within (length fixed) ls ≡ true → first_wrong Ascii ls (fixed ++ rest) ≡ first_wrong Ascii ls fixed
  unfolding first_wrong line_holds
  lines-front [] e = refl
  lines-front (l ∷ ls) e =
      let fits = both_true (leb (l.first - 1 + l.size) (length fixed)) _ e in
      let looks = both_true (looks_within (length fixed) l.rule) (lines_within (length fixed) ls) fits.1 in
      let same = part-front (l.first - 1) l.size (leb-true (l.first - 1 + l.size) (length fixed) fits.0) in
      rw (same, holds-front l.usage l.data_type l.rule (part (l.first - 1) l.size fixed) looks.0, lines-front ls looks.1)

pub first-wrong-front : (t : ℕ) (fixed rest : List ℕ) → length fixed ≡ (layout_of t).fixed_length
    → first_wrong Ascii (layout_of t).lines (fixed ++ rest) ≡ first_wrong Ascii (layout_of t).lines fixed
first-wrong-front t fixed rest long =
    lines-front fixed rest (layout_of t).lines (rw long (every-layout (λ k. lines_within k.fixed_length k.lines) t refl))

-- what is not at fault fits
pub fit-lines : (v : Values) (addenda : ℕ) (s : Standing) → field_fault v addenda s ≡ 0 → first_unfit v addenda (layout_of v.type).lines v.fields ≡ 0
unfolding field_fault
fit-lines v addenda s e = neither (first_unfit v addenda (layout_of v.type).lines v.fields) (first_wrong Ascii (layout_of v.type).lines (completed v addenda s)) e
  where
    neither : (m n : ℕ) → lower m n ≡ 0 → m ≡ 0
    neither m n e = by (eqb m 0) refl (eqb n 0) refl e
      where
        by : (c : Bool) → eqb m 0 ≡ c → (d : Bool) → eqb n 0 ≡ d → cond c n (cond d m (min m n)) ≡ 0 → m ≡ 0
        by true p d q e = eqb-true m 0 p
        by false p true q e = e
        by false p false q e = let one = eqb-false m 0 p in let other = eqb-false n 0 q in omega arith

abbrev all_numbered : List Sized → Bool
all_numbered [] = true
all_numbered (s ∷ ss) = leb 1 s.number && all_numbered ss

parts-fit : (ss : List Sized) (ps : List Piece) → length ps ≡ length ss → all_numbered ss ≡ true → first_unfit_part ss ps ≡ 0 → every_here ps ≡ true
unfolding first_unfit_part
parts-fit [] [] l n e = refl
parts-fit [] (p ∷ ps) l n e = absurd (omega arith)
parts-fit (s ∷ ss) [] l n e = absurd (omega arith)
parts-fit (s ∷ ss) (p ∷ ps) l n e =
    let numbered = both_true (leb 1 s.number) (all_numbered ss) n in
    let fit = right-line (is_here p && of_type Ascii s.data_type (characters_of p)) s.number (first_unfit_part ss ps) (leb-true 1 s.number numbered.0) e in
    let lies = both_true (is_here p) (of_type Ascii s.data_type (characters_of p)) fit.0 in
    rw lies.0 (parts-fit ss ps (omega arith) numbered.1 fit.1)

pub fit_parts : (v : Values) → Shaped v → first_unfit_part (sized_parts (layout_of v.type)) v.parts ≡ 0 → every_here v.parts ≡ true
fit_parts v shaped =
    parts-fit (sized_parts (layout_of v.type)) v.parts shaped.parts (every-layout (λ k. all_numbered (sized_parts k)) v.type refl)

-- a carried record is judged by the layout of its type
module _ (set : CharacterSet) (t : ℕ) (body : List ℕ) where
  judged-among : (ks : List Layout) → is_one_of t (numbers_of ks) ≡ true → among_layouts set ks t body ≡ alone set (layout_among ks t) body
  judged-among [] e = let z : ◌≡◌ {A = ℕ} 0 1 = cc in absurd (omega arith)
  judged-among (k ∷ ks) e = by (eqb t k.type_number) e (judged-among ks)
    where
      by : (c : Bool) → c || is_one_of t (numbers_of ks) ≡ true
          → (is_one_of t (numbers_of ks) ≡ true → among_layouts set ks t body ≡ alone set (layout_among ks t) body)
          → cond c (alone set k body) (among_layouts set ks t body) ≡ alone set (cond c k (layout_among ks t)) body
      by true e later = refl
      by false e later = later e

  pub judged-carried : is_carried t ≡ true → judged_as set t body ≡ alone set (layout_of t) body
  unfolding judged_as layout_of is_carried
  judged-carried e = judged-among layouts e

-- computed of the layouts: so many positions past the first stands a field of a size that states a part's, in at most 19 digits
abbrev states_at : ℕ → ℕ → ℕ → List Line → Bool
states_at past first size [] = false
states_at past first size (l ∷ ls) =
    leb 1 l.number
    && cond (eqb past 0) (eqb (code_of l.origin) 2 && (eqb l.first first && (eqb l.size size && leb size 19)))
    (leb l.size past && states_at (past - l.size) first size ls)

abbrev all_stated : List Line → List Sized → Bool
all_stated ls [] = true
all_stated ls (s ∷ ss) = states_at (s.first - 1) s.first s.size ls && all_stated ls ss

-- and no two parts are sized by the same field
abbrev differs : ℕ → List Sized → Bool
differs first [] = true
differs first (s ∷ ss) = not (eqb first s.first) && differs first ss

abbrev all_apart : List Sized → Bool
all_apart [] = true
all_apart (s ∷ ss) = differs s.first ss && all_apart ss

-- a record states of each part how long it is
pub data Stating (body : List ℕ) : List Sized → List Piece → Type 0 where
  none : Stating body [] []
  one : {s : Sized} {ss : List Sized} {p : Piece} {ps : List Piece} → stated_size Ascii s body ≡ size_of p → Stating body ss ps → Stating body (s ∷ ss) (p ∷ ps)

module _ (body : List ℕ) where
  abbrev StatedBy : (ℕ → ℕ) → List Sized → Type 0
  StatedBy size [] = Unit {0}
  StatedBy size (s ∷ ss) = (stated_size Ascii s body ≡ size s.first) × StatedBy size ss

  behind : (s : Sized) (ss : List Sized) (p : Piece) (ps : List Piece) (xs : List Sized) → differs s.first xs ≡ true
      → StatedBy (λ first. part_sized_at first (s ∷ ss) (p ∷ ps)) xs → StatedBy (λ first. part_sized_at first ss ps) xs
  behind s ss p ps [] d e = tt
  behind s ss p ps (x ∷ xs) d e =
      let both = both_true (not (eqb s.first x.first)) (differs s.first xs) d in
      (e.0 ∙ rw (not-true (eqb s.first x.first) both.0), behind s ss p ps xs both.1 e.1)

  stating : (ss : List Sized) (ps : List Piece) → length ps ≡ length ss → all_apart ss ≡ true → StatedBy (λ first. part_sized_at first ss ps) ss → Stating body ss ps
  stating [] [] l a e = none
  stating [] (p ∷ ps) l a e = absurd (omega arith)
  stating (s ∷ ss) [] l a e = absurd (omega arith)
  stating (s ∷ ss) (p ∷ ps) l a e =
      let both = both_true (differs s.first ss) (all_apart ss) a in
      let own : stated_size Ascii s body ≡ size_of p = e.0 ∙ rw (eq-eqb s.first s.first refl) in
      one own (stating ss ps (omega arith) both.1 (behind s ss p ps ss both.0 e.1))

  sizes-stated : {ss : List Sized} {ps : List Piece} → Stating body ss ps → stated_sizes Ascii ss body ≡ all_sizes ps
  unfolding stated_sizes all_sizes
  sizes-stated none = refl
  sizes-stated (one e r) = ap₂ ◌+◌ e (sizes-stated r)

  parts-judged : {ss : List Sized} {ps : List Piece} → Stating body ss ps → every_here ps ≡ true → first_wrong_part Ascii ss body (all_parts ps) ≡ first_unfit_part ss ps
  unfolding first_wrong_part first_unfit_part all_parts
  parts-judged none h = refl
  parts-judged (one {s} {ss} {p} {ps} e r) h =
      let both = both_true (is_here p) (every_here ps) h in
      let long = piece-long p in
      rw (e, take_at (characters_of p) (all_parts ps) (size_of p) long, drop_at (characters_of p) (all_parts ps) (size_of p) long, both.0, parts-judged r both.1)

  filled : {ss : List Sized} {ps : List Piece} (fixed : ℕ) → Stating body ss ps → length body ≡ fixed + all_sizes ps
      → is_variable ss || leb (length body) fixed ≡ true
  unfolding all_sizes
  filled fixed none l = le-leb (length body) fixed (omega arith)
  filled fixed (one e r) l = refl

-- the field that states the size of a part, behind the fields before it
module _ (v : Values) (addenda : ℕ) (s : Standing) (rest : List ℕ) where
  stated-here : (l : Line) (ls : List Line) (ps : List Piece) (first size : ℕ) → 1 ≤ l.number
      → eqb (code_of l.origin) 2 && (eqb l.first first && (eqb l.size size && leb size 19)) ≡ true → first_unfit v addenda (l ∷ ls) ps ≡ 0
      → number Ascii (take size (fixed_part v addenda s (l ∷ ls) ps ++ rest)) ≡ own_statement v addenda first PartSize
  unfolding fixed_part first_unfit
  stated-here l ls ps first size n e u =
      let o = both_true (eqb (code_of l.origin) 2) _ e in
      let f = both_true (eqb l.first first) _ o.1 in
      let z = both_true (eqb l.size size) (leb size 19) f.1 in
      let origin = is-origin l.origin 2 o.0 in
      let starts = eqb-true l.first first f.0 in
      let long = eqb-true l.size size z.0 in
      let states = own_statement v addenda first PartSize in
      let fit = right-line (fits size states) l.number (first_unfit v addenda ls ps) n (rw (origin, starts, long) at u) in
      rw (origin, starts, long, append_assoc)
      (ap (number Ascii) (take_at (digits size states) (fixed_part v addenda s ls ps ++ rest) size (digits_long size states))
      ∙ digits-states size states (leb-true size 19 z.1) fit.0)

  stated-at : (ls : List Line) (ps : List Piece) (past first size : ℕ) → map size_of ps ≡ given_sizes ls → first_unfit v addenda ls ps ≡ 0
      → states_at past first size ls ≡ true → number Ascii (part past size (fixed_part v addenda s ls ps ++ rest)) ≡ own_statement v addenda first PartSize
  stated-at [] ps past first size g u e = let z : ◌≡◌ {A = ℕ} 0 1 = cc in absurd (omega arith)
  stated-at (l ∷ ls) ps past first size g u e =
      let both = both_true (leb 1 l.number) _ e in
      let n = leb-true 1 l.number both.0 in
      let f = front v addenda s l ls ps g in
      by (eqb past 0) refl n both.1 (stated-at ls f.others (past - l.size) first size f.shape (f.fit n u))
    where
      by : (c : Bool) → eqb past 0 ≡ c → 1 ≤ l.number
          → cond c (eqb (code_of l.origin) 2 && (eqb l.first first && (eqb l.size size && leb size 19)))
          (leb l.size past && states_at (past - l.size) first size ls) ≡ true
          → (states_at (past - l.size) first size ls ≡ true
          → number Ascii (part (past - l.size) size (fixed_part v addenda s ls (front v addenda s l ls ps g).others ++ rest)) ≡ own_statement v addenda first PartSize)
          → number Ascii (part past size (fixed_part v addenda s (l ∷ ls) ps ++ rest)) ≡ own_statement v addenda first PartSize
      by true q n e later = rw (eqb-true past 0 q) (stated-here l ls ps first size n e u)
      by false q n e later =
          let f = front v addenda s l ls ps g in
          let both = both_true (leb l.size past) (states_at (past - l.size) first size ls) e in
          let passes = leb-true l.size past both.0 in
          let place : past ≡ length f.own + (past - l.size) = omega (arith, f.long) in
          let others = fixed_part v addenda s ls f.others ++ rest in
          let moves : drop past (fixed_part v addenda s (l ∷ ls) ps ++ rest) ≡ drop (past - l.size) others =
          ap₂ (λ (k : ℕ) (xs : List ℕ). drop k xs) place (ap (λ (xs : List ℕ). xs ++ rest) f.is ∙ append_assoc f.own (fixed_part v addenda s ls f.others) rest)
          ∙ drop-append-add f.own others (past - l.size) in
          ap (λ (xs : List ℕ). number Ascii (take size xs)) moves ∙ later both.1

module _ (v : Values) (addenda : ℕ) (s : Standing) (shaped : Shaped v) (fit : first_unfit v addenda (layout_of v.type).lines v.fields ≡ 0) where
  all-stated : (ss : List Sized) → all_stated (layout_of v.type).lines ss ≡ true
      → StatedBy (completed v addenda s) (λ first. part_sized_at first (sized_parts (layout_of v.type)) v.parts) ss
  unfolding completed
  all-stated [] e = tt
  all-stated (x ∷ xs) e =
      let both = both_true (states_at (x.first - 1) x.first x.size (layout_of v.type).lines) (all_stated (layout_of v.type).lines xs) e in (
        stated-at v addenda (capped_figures s) (all_parts v.parts) (layout_of v.type).lines v.fields (x.first - 1) x.first x.size shaped.fields fit
            both.0,
        all-stated xs both.1,
      )

  pub completed-states : Stating (completed v addenda s) (sized_parts (layout_of v.type)) v.parts
  completed-states =
      stating (completed v addenda s) (sized_parts (layout_of v.type)) v.parts shaped.parts (every-layout (λ k. all_apart (sized_parts k)) v.type refl)
      (all-stated (sized_parts (layout_of v.type)) (every-layout (λ k. all_stated k.lines (sized_parts k)) v.type refl))

  pub parts-behind : drop (layout_of v.type).fixed_length (completed v addenda s) ≡ all_parts v.parts
  unfolding completed
  parts-behind =
      drop_at (fixed_part v addenda (capped_figures s) (layout_of v.type).lines v.fields) (all_parts v.parts) (layout_of v.type).fixed_length
      (fixed-long v addenda (capped_figures s) shaped)

pub completed-judged : (v : Values) (addenda : ℕ) (s : Standing) → Shaped v → is_carried v.type ≡ true
    → first_unfit v addenda (layout_of v.type).lines v.fields ≡ 0 → every_here v.parts ≡ true
    → judged_as Ascii v.type (completed v addenda s)
    ≡ unless_field (field_fault v addenda s) (unless_field (first_unfit_part (sized_parts (layout_of v.type)) v.parts) Sound)
unfolding judged field_fault
completed-judged v addenda s shaped c fit h =
    let k = layout_of v.type in
    let body = completed v addenda s in
    let states = completed-states v addenda s shaped fit in
    let long = completed-long v addenda s shaped in
    let sizes = sizes-stated body states in
    judged-carried Ascii v.type body c
    ∙ rw (
      le-leb k.fixed_length (length body) (omega arith),
      filled body k.fixed_length states long,
      eq-eqb (length body) (k.fixed_length + stated_sizes Ascii (sized_parts k) body) (omega arith),
      parts-behind v addenda s shaped fit,
      parts-judged body states h,
      fit,
    )
