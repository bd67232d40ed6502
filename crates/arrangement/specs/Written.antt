-- An arrangement written out: its records in their order, and these, each with its length in front, as the bytes of a file.
use Rattle.std.specs.Prelude.{ℕ, List, [], ◌∷◌, ◌++◌}
use Rattle.std.proofs.Math.Option.{Option, none, some}
use Rattle.file_as_records.specs.Framed.{Body, framed}
use Rattle.arrangement.specs.Tree.{View, Addenda, of_check, of_return, of_credit, Item, Bundle, Credit, Content, bundled, direct, CashLetter, File}

-- Each of these gives the records of a part, and then `rest`, those that follow it.
abbrev pub optional_then : Option Body → List Body → List Body
optional_then none rest = rest
optional_then (some b) rest = b ∷ rest

abbrev pub view_then : View → List Body → List Body
view_then v rest = v.detail ∷ v.image ∷ optional_then v.analysis rest

abbrev pub views_then : List View → List Body → List Body
views_then [] rest = rest
views_then (v ∷ vs) rest = view_then v (views_then vs rest)

abbrev pub addenda_then : Addenda → List Body → List Body
addenda_then (of_check a b c) rest = a ++ optional_then b (c ++ rest)
addenda_then (of_return a b c d) rest = a ++ (b ∷ optional_then c (d ++ rest))
addenda_then of_credit rest = rest

abbrev pub item_then : Item → List Body → List Body
item_then i rest = i.detail ∷ addenda_then i.addenda (views_then i.views rest)

abbrev pub items_then : List Item → List Body → List Body
items_then [] rest = rest
items_then (i ∷ is) rest = item_then i (items_then is rest)

abbrev pub bundle_then : Bundle → List Body → List Body
bundle_then b rest = b.header ∷ items_then b.items (b.control ∷ rest)

abbrev pub credit_then : Credit → List Body → List Body
credit_then c rest = c.detail ∷ views_then c.views rest

abbrev pub content_then : Content → List Body → List Body
content_then (bundled b) rest = bundle_then b rest
content_then (direct c) rest = credit_then c rest

abbrev pub contents_then : List Content → List Body → List Body
contents_then [] rest = rest
contents_then (c ∷ cs) rest = content_then c (contents_then cs rest)

abbrev pub letter_then : CashLetter → List Body → List Body
letter_then l rest = l.header ∷ contents_then l.contents (l.control ∷ rest)

abbrev pub letters_then : List CashLetter → List Body → List Body
letters_then [] rest = rest
letters_then (l ∷ ls) rest = letter_then l (letters_then ls rest)

abbrev pub records : File → List Body
records f = f.header ∷ letters_then f.letters (f.control ∷ [])

abbrev pub written : File → List ℕ
written f = framed (records f)
