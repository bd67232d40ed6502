-- Which record may follow (document 01): clauses 7 to 23, 26, 31, 34, 35 and Figures 1 to 2.
use Rattle.std.specs.Prelude.{ℕ, Bool, true, false, ◌&&◌, ◌||◌, not, cond, List, [], ◌∷◌, eqb}
use Rattle.text.specs.Ranges.{within}

-- a type, and those that may come after it
pub record After : Type 0 where
  pub last : ℕ
  pub next : List ℕ

abbrev pub after : ℕ → List ℕ → After
after t ts = record { last = t; next = ts }

-- "After each, in order of the hierarchy"; 0 is the start. Where no bundle is open: in the file, and directly in a cash letter, where a 61
-- may stand with its views (request 2, clause 26)
abbrev pub outside : List After
outside =
    after 0 (1 ∷ []) ∷
    after 1 (10 ∷ []) ∷
    after 10 (20 ∷ 61 ∷ 90 ∷ []) ∷
    after 50 (52 ∷ []) ∷
    after 52 (50 ∷ 54 ∷ 61 ∷ 20 ∷ 90 ∷ []) ∷
    after 54 (50 ∷ 61 ∷ 20 ∷ 90 ∷ []) ∷
    after 61 (50 ∷ 61 ∷ 20 ∷ 90 ∷ []) ∷
    after 70 (20 ∷ 61 ∷ 90 ∷ []) ∷
    after 90 (10 ∷ 99 ∷ []) ∷
    []

-- in a bundle, from its 20 to its 70
abbrev pub inside : List After
inside =
    after 20 (25 ∷ 31 ∷ 61 ∷ []) ∷
    after 25 (26 ∷ 27 ∷ 28 ∷ 50 ∷ 25 ∷ 61 ∷ 70 ∷ []) ∷
    after 26 (26 ∷ 27 ∷ 28 ∷ 50 ∷ 25 ∷ 61 ∷ 70 ∷ []) ∷
    after 27 (28 ∷ 50 ∷ 25 ∷ 61 ∷ 70 ∷ []) ∷
    after 28 (28 ∷ 50 ∷ 25 ∷ 61 ∷ 70 ∷ []) ∷
    after 31 (32 ∷ 33 ∷ []) ∷
    after 32 (32 ∷ 33 ∷ []) ∷
    after 33 (34 ∷ 35 ∷ 50 ∷ 31 ∷ 61 ∷ 70 ∷ []) ∷
    after 34 (35 ∷ 50 ∷ 31 ∷ 61 ∷ 70 ∷ []) ∷
    after 35 (35 ∷ 50 ∷ 31 ∷ 61 ∷ 70 ∷ []) ∷
    after 50 (52 ∷ []) ∷
    after 52 (50 ∷ 54 ∷ 25 ∷ 31 ∷ 61 ∷ 70 ∷ []) ∷
    after 54 (50 ∷ 25 ∷ 31 ∷ 61 ∷ 70 ∷ []) ∷
    after 61 (50 ∷ 61 ∷ 25 ∷ 31 ∷ 70 ∷ []) ∷
    []

abbrev pub table : Bool → List After
table opened = cond opened inside outside

abbrev pub is_one_of : ℕ → List ℕ → Bool
is_one_of t [] = false
is_one_of t (u ∷ us) = eqb t u || is_one_of t us

-- a pair stands in the table: the first is the type of a line, and the second one of those after it
abbrev pub in_table : List After → ℕ → ℕ → Bool
in_table [] last next = false
in_table (line ∷ lines) last next = eqb last line.last && is_one_of next line.next || in_table lines last next

unfoldable pub follows : Bool → ℕ → ℕ → Bool
follows opened last next = in_table (table opened) last next

-- an item is a 25, a check; a 31, a return; or a 61, a credit (request 2)
abbrev pub is_check_or_return : ℕ → Bool
is_check_or_return t = eqb t 25 || eqb t 31

abbrev pub is_item : ℕ → Bool
is_item t = is_check_or_return t || eqb t 61

-- its addenda: 26, 27, 28 of a 25; 32, 33, 34, 35 of a 31
abbrev pub is_addendum : ℕ → Bool
is_addendum t = within 26 28 t || within 32 35 t

-- of the types read so far, the newest first: the last one; whether a bundle is open
abbrev pub last_of : List ℕ → ℕ
last_of [] = 0
last_of (t ∷ ts) = t

abbrev pub is_open : List ℕ → Bool
is_open [] = false
is_open (t ∷ ts) = cond (eqb t 20) true (cond (eqb t 70) false (is_open ts))

-- the type of the checks or returns in the open bundle (0: none yet); 61s do not set it
abbrev pub item_type_in_bundle : List ℕ → ℕ
item_type_in_bundle [] = 0
item_type_in_bundle (t ∷ ts) = cond (eqb t 20) 0 (cond (is_check_or_return t) t (item_type_in_bundle ts))

-- the type of the newest item of the open bundle, or, where none is open, of the newest 61 directly in the cash letter (0: none yet)
abbrev pub newest_item_type : List ℕ → ℕ
newest_item_type [] = 0
newest_item_type (t ∷ ts) = cond (eqb t 10 || (eqb t 20 || eqb t 70)) 0 (cond (is_item t) t (newest_item_type ts))

-- "Items in a bundle are all 25 or all 31, as the first"; "the one-kind rule ignores 61s" (request 2)
abbrev pub one_item_type : ℕ → ℕ → Bool
one_item_type in_bundle next = not (is_check_or_return next) || (eqb in_bundle 0 || eqb in_bundle next)

-- a type may come next, with a bundle open or not, after a last type, and with checks or returns of a type in the open bundle
unfoldable pub may_follow : Bool → ℕ → ℕ → ℕ → Bool
may_follow opened last in_bundle next = follows opened last next && one_item_type in_bundle next

-- "Carried record types", and 61 (request 2)
abbrev pub carried : List ℕ
carried = 1 ∷ 10 ∷ 20 ∷ 25 ∷ 26 ∷ 27 ∷ 28 ∷ 31 ∷ 32 ∷ 33 ∷ 34 ∷ 35 ∷ 50 ∷ 52 ∷ 54 ∷ 61 ∷ 70 ∷ 90 ∷ 99 ∷ []

unfoldable pub is_carried : ℕ → Bool
is_carried t = is_one_of t carried
