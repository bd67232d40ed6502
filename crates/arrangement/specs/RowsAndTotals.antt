-- The rows and totals of an arrangement (document 01, "Numbers that bind"): each record's row from its place in the arrangement.
use Rattle.std.specs.Prelude.{ℕ, ◌+◌, List, [], ◌∷◌, ◌++◌, length}
use Rattle.text.specs.declared.character_set.CharacterSet.{CharacterSet}
use Rattle.judge.specs.Alone.{type_of}
use Rattle.measure.specs.Measures.{sums}
use Rattle.passes.specs.declared.Totals.{Totals}
use Rattle.file_as_records.specs.Framed.{Body}
use Rattle.arrangement.specs.Tree.{of_credit, Item, Content, bundled, direct, CashLetter, File}
use Rattle.arrangement.specs.Written.{addenda_then, views_then, records}
use Rattle.arrangement.specs.Sound.{total, amount_in, of_bundle, of_letter, of_file, every_item, debits, debit_cents, credits, credit_cents, view_count, bundle_count}
use Rattle.measure.specs.Measures as measures

-- a record with the ordinals of its cash letter, bundle and item, "0 where the record lies outside that level", and its amount
pub record Placed : Type 0 where
  pub body : Body
  pub letter : ℕ
  pub bundle : ℕ
  pub item : ℕ
  pub amount : ℕ

abbrev pub placed : ℕ → ℕ → ℕ → ℕ → Body → Placed
placed l b i n r = record { body = r; letter = l; bundle = b; item = i; amount = n }

-- "Addenda and views carry their item's" ordinals; their amount is 0
abbrev pub alike_then : ℕ → ℕ → ℕ → List Body → List Placed → List Placed
alike_then l b i [] rest = rest
alike_then l b i (r ∷ rs) rest = placed l b i 0 r ∷ alike_then l b i rs rest

-- "Ordinals start at 1": items from n on, in bundle b of cash letter l
abbrev pub item_places : CharacterSet → ℕ → ℕ → ℕ → List Item → List Placed → List Placed
item_places set l b n [] rest = rest
item_places set l b n (i ∷ is) rest =
    placed l b n (amount_in set i.addenda i.detail) i.detail
    ∷ alike_then l b n (addenda_then i.addenda (views_then i.views [])) (item_places set l b (n + 1) is rest)

-- "Headers and controls carry the ordinals of their own level and those above"; "debit cents as added up for 70, 90 and 99". What a cash
-- letter holds, where n is the ordinal of its next bundle: a 61 outside a bundle, with its views, has 0 for bundle and item (request 2)
abbrev pub content_places : CharacterSet → ℕ → ℕ → List Content → List Placed → List Placed
content_places set l n [] rest = rest
content_places set l n (bundled b ∷ cs) rest =
    placed l n 0 0 b.header
    ∷ item_places set l n 1 b.items (placed l n 0 (of_bundle (debit_cents set) b) b.control ∷ content_places set l (n + 1) cs rest)
content_places set l n (direct c ∷ cs) rest =
    placed l 0 0 (amount_in set of_credit c.detail) c.detail ∷ alike_then l 0 0 (views_then c.views []) (content_places set l n cs rest)

abbrev pub letter_places : CharacterSet → ℕ → List CashLetter → List Placed → List Placed
letter_places set n [] rest = rest
letter_places set n (l ∷ ls) rest =
    placed n 0 0 0 l.header
    ∷ content_places set n 1 l.contents (placed n 0 0 (of_letter (debit_cents set) l) l.control ∷ letter_places set (n + 1) ls rest)

abbrev pub places : CharacterSet → File → List Placed
places set f = placed 0 0 0 0 f.header ∷ letter_places set 1 f.letters (placed 0 0 0 (of_file (debit_cents set) f) f.control ∷ [])

-- "record type; offset of the record's length field; the length; cash letter ordinal; bundle ordinal; item ordinal; amount"
abbrev pub row : CharacterSet → ℕ → Placed → List ℕ
row set at p = type_of set p.body ∷ at ∷ length p.body ∷ p.letter ∷ p.bundle ∷ p.item ∷ p.amount ∷ []

abbrev pub rows_from : CharacterSet → ℕ → List Placed → List ℕ
rows_from set at [] = []
rows_from set at (p ∷ ps) = row set at p ++ rows_from set (at + 4 + length p.body) ps

abbrev pub rows : CharacterSet → File → List ℕ
rows set f = rows_from set 0 (places set f)

-- the totals: records, cash letters, bundles, items; debits, debit cents, credits, credit cents and views, of all the items added up
abbrev pub totals : CharacterSet → File → Totals
totals set f =
    record {
      records = measures.records (length (records f));
      letters = length f.letters;
      bundles = total bundle_count f.letters;
      items = measures.items (of_file every_item f);
      sums = sums (of_file (debits set) f) (of_file (debit_cents set) f) (of_file (credits set) f) (of_file (credit_cents set) f) (of_file view_count f);
    }
