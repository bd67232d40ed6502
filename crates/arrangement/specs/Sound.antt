-- What is right about an arrangement, from document 01's "Fields, links and sums" and the clauses beside each line.
use Rattle.std.specs.Prelude.{ℕ, ◌+◌, ◌≤◌, Bool, true, false, not, cond, ◌⊎◌, ◌≡◌, List, [], ◌∷◌, eqb, length, get_or, take, drop}
use Rattle.std.proofs.Math.Option.{Option, none, some}
use Rattle.text.specs.declared.character_set.CharacterSet.{CharacterSet}
use Rattle.text.specs.Characters.{is_blank}
use Rattle.text.specs.Capitals.{capital}
use Rattle.text.specs.DataTypes.{every, of_type}
use Rattle.text.specs.Number.{number}
use Rattle.layout.specs.Layout.{Line, Layout, Sized, sized_parts}
use Rattle.layout.specs.Layouts.{credit_record, file_header, cash_letter_header, bundle_header, check_detail, check_detail_addendum_a, check_detail_addendum_b, check_detail_addendum_c, return_record, return_addendum_a, return_addendum_b, return_addendum_c, return_addendum_d, image_view_detail, image_view_data, image_view_analysis, bundle_control, cash_letter_control, file_control}
use Rattle.judge.specs.Alone.{type_of, line_holds, stated_size, stated_sizes}
use Rattle.file_as_records.specs.Framed.{Body, field_of}
use Rattle.standing.specs.History.{one}
use Rattle.arrangement.specs.Tree.{View, Addenda, of_check, of_return, of_credit, Item, Bundle, Credit, Content, bundled, direct, CashLetter, File}
use Rattle.arrangement.specs.Written.{addenda_then, records}

abbrev pub All : {A : Type 0} → (A → Type 0) → List A → Type 0
All p [] = Unit {0}
All p (x ∷ xs) = p x × All p xs

abbrev pub IfAny : (Body → Type 0) → Option Body → Type 0
IfAny p none = Unit {0}
IfAny p (some b) = p b

-- a figure of each, added up
abbrev pub total : {A : Type 0} → (A → ℕ) → List A → ℕ
total figure [] = 0
total figure (x ∷ xs) = figure x + total figure xs

-- fields after the fixed part stand one after the other, each as long as the record says
abbrev pub PartsRight : CharacterSet → List Sized → Body → List ℕ → Type 0
PartsRight set [] b rest = Unit {0}
PartsRight set (s ∷ ss) b rest = (of_type set s.data_type (take (stated_size set s b) rest) ≡ true) × PartsRight set ss b (drop (stated_size set s b) rest)

-- a record of a layout, alone: its type, its length, each of its fields
pub record Right (set : CharacterSet) (k : Layout) (b : Body) : Type 0 where
  pub type : type_of set b ≡ k.type_number
  pub long : length b ≡ k.fixed_length + stated_sizes set (sized_parts k) b
  pub fields : All (λ (l : Line). line_holds set l b ≡ true) k.lines
  pub parts : PartsRight set (sized_parts k) b (drop k.fixed_length b)

-- the number that a field states
abbrev pub stated : CharacterSet → Layout → ℕ → Body → ℕ
stated set k n b = number set (field_of k n b)

-- a record of a layout whose record number, field 2, is n; and records whose numbers run on from n
pub record RightAt (set : CharacterSet) (k : Layout) (n : ℕ) (b : Body) : Type 0 where
  pub right : Right set k b
  pub number : stated set k 2 b ≡ n

abbrev pub Numbered : CharacterSet → Layout → ℕ → List Body → Type 0
Numbered set k n [] = Unit {0}
Numbered set k n (b ∷ bs) = RightAt set k n b × Numbered set k (n + 1) bs

-- what an item is and says: its type; its amount (field 6, of a 61 field 7); its sequence number (field 7, of a 61 field 8); and how many
-- addenda it has (field 12 of a 25, field 8 of a 31; a 61 has none)
abbrev pub layout_in : Addenda → Layout
layout_in (of_check a b c) = check_detail
layout_in (of_return a b c d) = return_record
layout_in of_credit = credit_record

abbrev pub layout_of : Item → Layout
layout_of i = layout_in i.addenda

abbrev pub amount_in : CharacterSet → Addenda → Body → ℕ
amount_in set (of_check a b c) detail = stated set check_detail 6 detail
amount_in set (of_return a b c d) detail = stated set return_record 6 detail
amount_in set of_credit detail = stated set credit_record 7 detail

abbrev pub sequence_in : Addenda → Body → List ℕ
sequence_in (of_check a b c) detail = field_of check_detail 7 detail
sequence_in (of_return a b c d) detail = field_of return_record 7 detail
sequence_in of_credit detail = field_of credit_record 8 detail

abbrev pub stated_in : CharacterSet → Addenda → Body → ℕ
stated_in set (of_check a b c) detail = stated set check_detail 12 detail
stated_in set (of_return a b c d) detail = stated set return_record 8 detail
stated_in set of_credit detail = 0

-- whether views are demanded of it: of checks and returns, "none being demanded" of a 61 (request 2)
abbrev pub demands_view : Addenda → Bool
demands_view (of_check a b c) = true
demands_view (of_return a b c d) = true
demands_view of_credit = false

-- "Usage indicator 9 makes a debit, any other defined value a credit" (request 2): field 2 of a 61. Every check and return is a debit.
abbrev pub is_debit_in : CharacterSet → Addenda → Body → Bool
is_debit_in set (of_check a b c) detail = true
is_debit_in set (of_return a b c d) detail = true
is_debit_in set of_credit detail = eqb (stated set credit_record 2 detail) 9

-- A figure of an item, from its addenda, its first record and its views; and that of a level, added up from the items themselves. A credit
-- directly in a cash letter counts there and in the file.
abbrev pub Figure : Type 0
Figure = Addenda → Body → List View → ℕ

abbrev pub of_item : Figure → Item → ℕ
of_item figure i = figure i.addenda i.detail i.views

abbrev pub of_bundle : Figure → Bundle → ℕ
of_bundle figure b = total (of_item figure) b.items

abbrev pub of_content : Figure → Content → ℕ
of_content figure (bundled b) = of_bundle figure b
of_content figure (direct c) = figure of_credit c.detail c.views

abbrev pub of_letter : Figure → CashLetter → ℕ
of_letter figure l = total (of_content figure) l.contents

abbrev pub of_file : Figure → File → ℕ
of_file figure f = total (of_letter figure) f.letters

-- every 25, 31 and 61 (clause 35.4); the debits and their cents; the credits and theirs; the views
abbrev pub every_item : Figure
every_item a detail vs = 1

abbrev pub debits : CharacterSet → Figure
debits set a detail vs = one (is_debit_in set a detail)

abbrev pub debit_cents : CharacterSet → Figure
debit_cents set a detail vs = cond (is_debit_in set a detail) (amount_in set a detail) 0

abbrev pub credits : CharacterSet → Figure
credits set a detail vs = one (not (is_debit_in set a detail))

abbrev pub credit_cents : CharacterSet → Figure
credit_cents set a detail vs = cond (is_debit_in set a detail) 0 (amount_in set a detail)

abbrev pub view_count : Figure
view_count a detail vs = length vs

-- "cents of the 25s whose MICR Valid Indicator is 1": field 10
abbrev pub micr : CharacterSet → Figure
micr set (of_check a b c) detail vs = cond (eqb (stated set check_detail 10 detail) 1) (stated set check_detail 6 detail) 0
micr set (of_return a b c d) detail vs = 0
micr set of_credit detail vs = 0

-- the bundles among what a cash letter holds
abbrev pub is_bundle : Content → ℕ
is_bundle (bundled b) = 1
is_bundle (direct c) = 0

abbrev pub bundle_count : CashLetter → ℕ
bundle_count l = total is_bundle l.contents

-- "26 and 32: record numbers run from 1 in each item; 28 and 35 likewise, each on its own": the addenda of a check, and those of a return
pub record SoundOfCheck (set : CharacterSet) (a : List Body) (b : Option Body) (c : List Body) : Type 0 where
  pub addenda-a : Numbered set check_detail_addendum_a 1 a
  pub addendum-b : IfAny (Right set check_detail_addendum_b) b
  pub addenda-c : Numbered set check_detail_addendum_c 1 c

pub record SoundOfReturn (set : CharacterSet) (a : List Body) (b : Body) (c : Option Body) (d : List Body) : Type 0 where
  pub addenda-a : Numbered set return_addendum_a 1 a
  pub addendum-b : Right set return_addendum_b b
  pub addendum-c : IfAny (Right set return_addendum_c) c
  pub addenda-d : Numbered set return_addendum_d 1 d

abbrev pub SoundAddenda : CharacterSet → Addenda → Type 0
SoundAddenda set (of_check a b c) = SoundOfCheck set a b c
SoundAddenda set (of_return a b c d) = SoundOfReturn set a b c d
SoundAddenda set of_credit = Unit {0}

-- What fields 2 to 5 of a 52 have to equal. In a bundle: "field 2 equals the bundle header's field 4, field 3 its field 5, field 4 its field 9;
-- field 5 equals field 7 of the item". "Outside a bundle the 52's fields 2 and 3 equal the cash letter header's fields 4 and 5, and its
-- field 4 is not compared"; field 5 equals field 8 of a 61 (request 2).
pub record Owner : Type 0 where
  pub institution : List ℕ
  pub date : List ℕ
  pub cycle : Option (List ℕ)
  pub sequence : List ℕ

abbrev pub in_bundle : Body → Item → Owner
in_bundle header i =
    record {
      institution = field_of bundle_header 4 header;
      date = field_of bundle_header 5 header;
      cycle = some (field_of bundle_header 9 header);
      sequence = sequence_in i.addenda i.detail;
    }

abbrev pub in_letter : Body → Credit → Owner
in_letter letter c =
    record {
      institution = field_of cash_letter_header 4 letter;
      date = field_of cash_letter_header 5 letter;
      cycle = none;
      sequence = sequence_in of_credit c.detail;
    }

abbrev pub Equals : Option (List ℕ) → List ℕ → Type 0
Equals none xs = Unit {0}
Equals (some ys) xs = xs ≡ ys

-- a view; "fields 7 and 8 are not blank if the 50's field 10 is 1"
pub record SoundView (set : CharacterSet) (o : Owner) (v : View) : Type 0 where
  pub detail : Right set image_view_detail v.detail
  pub image : Right set image_view_data v.image
  pub analysis : IfAny (Right set image_view_analysis) v.analysis
  pub institution : field_of image_view_data 2 v.image ≡ o.institution
  pub date : field_of image_view_data 3 v.image ≡ o.date
  pub cycle : Equals o.cycle (field_of image_view_data 4 v.image)
  pub number : field_of image_view_data 5 v.image ≡ o.sequence
  pub signer : stated set image_view_detail 10 v.detail ≡ 1 → every (is_blank set) (field_of image_view_data 7 v.image) ≡ false
  pub key : stated set image_view_detail 10 v.detail ≡ 1 → every (is_blank set) (field_of image_view_data 8 v.image) ≡ false

-- Annex B: field 8 of the cash letter header, N, E, I or F, in either case
abbrev pub indicator : CharacterSet → Body → ℕ
indicator set letter = capital set (get_or (field_of cash_letter_header 8 letter) 0 0)

abbrev pub N : ℕ
N = 0x4E

abbrev pub E : ℕ
E = 0x45

abbrev pub I : ℕ
I = 0x49

abbrev pub F : ℕ
F = 0x46

-- an item under a cash letter header and a bundle header: it has the addenda that it states, no view in a letter of type E, and, where
-- views are demanded of it, at least one in a letter of type I or F
pub record SoundItem (set : CharacterSet) (letter header : Body) (i : Item) : Type 0 where
  pub detail : Right set (layout_of i) i.detail
  pub addenda : SoundAddenda set i.addenda
  pub number : length (addenda_then i.addenda []) ≡ stated_in set i.addenda i.detail
  pub views : All (SoundView set (in_bundle header i)) i.views
  pub unseen : indicator set letter ≡ E → length i.views ≡ 0
  pub seen : demands_view i.addenda ≡ true → (indicator set letter ≡ I) ⊎ (indicator set letter ≡ F) → 1 ≤ length i.views

-- "Items in a bundle are all 25 or all 31, as the first"; "the one-kind rule ignores 61s" (request 2)
abbrev pub item_types_in : Addenda → List ℕ → List ℕ
item_types_in (of_check a b c) others = 25 ∷ others
item_types_in (of_return a b c d) others = 31 ∷ others
item_types_in of_credit others = others

abbrev pub item_types : List Item → List ℕ
item_types [] = []
item_types (i ∷ is) = item_types_in i.addenda (item_types is)

abbrev pub AllTheFirst : List ℕ → Type 0
AllTheFirst [] = Unit {0}
AllTheFirst (t ∷ ts) = All (λ (u : ℕ). u ≡ t) ts

-- a bundle; no bundle stands in a letter of type N. Its control (clause 31): debits, debit cents, cents of the 25s with a valid MICR line
-- ("blank is not compared"), views, credits, credit cents
pub record SoundBundle (set : CharacterSet) (letter : Body) (b : Bundle) : Type 0 where
  pub header : Right set bundle_header b.header
  pub allowed : indicator set letter ≡ N → ⊥
  pub filled : 1 ≤ length b.items
  pub items : All (SoundItem set letter b.header) b.items
  pub one-item-type : AllTheFirst (item_types b.items)
  pub control : Right set bundle_control b.control
  pub debit-count : stated set bundle_control 2 b.control ≡ of_bundle (debits set) b
  pub debit-cents : stated set bundle_control 3 b.control ≡ of_bundle (debit_cents set) b
  pub valid : (every (is_blank set) (field_of bundle_control 4 b.control) ≡ true) ⊎ (stated set bundle_control 4 b.control ≡ of_bundle (micr set) b)
  pub view-count : stated set bundle_control 5 b.control ≡ of_bundle view_count b
  pub credit-count : stated set bundle_control 6 b.control ≡ of_bundle (credits set) b
  pub credit-cents : stated set bundle_control 7 b.control ≡ of_bundle (credit_cents set) b

-- a credit directly in a cash letter: no view in a letter of type E, and none demanded in any
pub record SoundCredit (set : CharacterSet) (letter : Body) (c : Credit) : Type 0 where
  pub detail : Right set credit_record c.detail
  pub views : All (SoundView set (in_letter letter c)) c.views
  pub unseen : indicator set letter ≡ E → length c.views ≡ 0

abbrev pub SoundContent : CharacterSet → Body → Content → Type 0
SoundContent set letter (bundled b) = SoundBundle set letter b
SoundContent set letter (direct c) = SoundCredit set letter c

-- a cash letter; one of type E, I or F has a bundle. Its control (clause 34): bundles, debits, debit cents, views, credits, credit cents
pub record SoundLetter (set : CharacterSet) (l : CashLetter) : Type 0 where
  pub header : Right set cash_letter_header l.header
  pub filled : (indicator set l.header ≡ N) ⊎ (1 ≤ bundle_count l)
  pub contents : All (SoundContent set l.header) l.contents
  pub control : Right set cash_letter_control l.control
  pub bundle-count : stated set cash_letter_control 2 l.control ≡ bundle_count l
  pub debit-count : stated set cash_letter_control 3 l.control ≡ of_letter (debits set) l
  pub debit-cents : stated set cash_letter_control 4 l.control ≡ of_letter (debit_cents set) l
  pub view-count : stated set cash_letter_control 5 l.control ≡ of_letter view_count l
  pub credit-count : stated set cash_letter_control 8 l.control ≡ of_letter (credits set) l
  pub credit-cents : stated set cash_letter_control 9 l.control ≡ of_letter (credit_cents set) l

-- a file, with a cash letter at least. Its control (clause 35): cash letters, "all records with 01 and 99 included", items, debit cents,
-- credit cents
pub record Sound (set : CharacterSet) (f : File) : Type 0 where
  pub header : Right set file_header f.header
  pub filled : 1 ≤ length f.letters
  pub letters : All (SoundLetter set) f.letters
  pub control : Right set file_control f.control
  pub letter-count : stated set file_control 2 f.control ≡ length f.letters
  pub record-count : stated set file_control 3 f.control ≡ length (records f)
  pub item_count : stated set file_control 4 f.control ≡ of_file every_item f
  pub debit-cents : stated set file_control 5 f.control ≡ of_file (debit_cents set) f
  pub credit-cents : stated set file_control 8 f.control ≡ of_file (credit_cents set) f
