-- The lists of defined values that more than a range makes up, each with the clauses that print it. Values printed as reserved
-- or user defined are among them (reading 1).
use Rattle.std.specs.Prelude.{ℕ, Bool, ◌||◌, leb, eqb}
use Rattle.text.specs.Ranges.{within}
use Rattle.field.specs.declared.CodeList.{CodeList}
use Rattle.field.specs.declared.CodeList.TheVariants.{FileTypes, YesNo, YesNoUnknown, RecordTypeIndicators, CashLetterDocumentation, ItemDocumentation, ReturnAcceptance, ArchiveTypes, TestOverrides, AccountTypes}

-- a code of one character, in capitals (clause 5.1.1)
unfoldable pub is_code : CodeList → ℕ → Bool
-- 7.3: P, T, A, B
is_code FileTypes x = eqb x 0x50 || (eqb x 0x54 || (eqb x 0x41 || eqb x 0x42))
-- 7.8, 11.9, 13.6, 15.9, 18.6: Y, N
is_code YesNo x = eqb x 0x59 || eqb x 0x4E
-- 10.11: Y, N, U
is_code YesNoUnknown x = eqb x 0x59 || (eqb x 0x4E || eqb x 0x55)
-- 8.8: N, E, I, F
is_code RecordTypeIndicators x = eqb x 0x4E || (eqb x 0x45 || (eqb x 0x49 || eqb x 0x46))
-- 8.9: A through M, Z
is_code CashLetterDocumentation x = within 0x41 0x4D x || eqb x 0x5A
-- 10.8, 16.6, 26.9: A through M
is_code ItemDocumentation x = within 0x41 0x4D x
-- 10.9: 0 through 9, A through F
is_code ReturnAcceptance x = within 0x30 0x39 x || within 0x41 0x46 x
-- 10.14, 16.7: A through I
is_code ArchiveTypes x = within 0x41 0x49 x
-- 21.20: 0, A through R
is_code TestOverrides x = eqb x 0x30 || within 0x41 0x52 x
-- 26.10: 1 through 5, A through J
is_code AccountTypes x = within 0x31 0x35 x || within 0x41 0x4A x

-- 7.2: 01, 02, 03, 20
abbrev pub is_standard_level : ℕ → Bool
is_standard_level n = within 1 3 n || eqb n 20

-- 26.11: 01 to 11, 21 to 99
abbrev pub is_source_of_work : ℕ → Bool
is_source_of_work n = within 1 11 n || within 21 99 n

-- 9.2: 00, 01, 03, 05, 06, 07, 09, 12, 80 to 89
abbrev pub is_bundle_collection_type : ℕ → Bool
is_bundle_collection_type n = leb n 1 || (eqb n 3 || (within 5 7 n || (eqb n 9 || (eqb n 12 || within 80 89 n))))

-- 8.2: those, and 10, 20, 99
abbrev pub is_collection_type : ℕ → Bool
is_collection_type n = is_bundle_collection_type n || (eqb n 10 || (eqb n 20 || eqb n 99))
