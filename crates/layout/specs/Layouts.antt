-- The layouts of the carried kinds of record, as clauses 7 to 35 print them. A line has the field's number, usage, first and
-- last position, size, data type, and its Format or Defined Values; its name stands behind it. The word behind the usage is no clause's: it
-- says what whoever makes out a record gives, and what is worked out (request 4).
use Rattle.std.specs.Prelude.{List, [], ◌∷◌}
use Rattle.text.specs.declared.data_types.DataType.TheVariants.{AB, A, AN, ANS, Binary, N, NB, NBD, NBQ, NBMc, NBMcd, NBMcdo, NBMU}
use Rattle.field.specs.declared.CodeList.TheVariants.{FileTypes, YesNo, YesNoUnknown, RecordTypeIndicators, CashLetterDocumentation, ItemDocumentation, ReturnAcceptance, ArchiveTypes, TestOverrides, AccountTypes}
use Rattle.field.specs.declared.Rule.TheVariants.{AllDigits, OneOrTwoDigits, StandardLevel, CollectionType, BundleCollectionType, SourceOfWork, Date, HoursMinutes, HoursMinutesSeconds, Code}
use Rattle.field.specs.RoutingForms.{TTTTAAAAC, TTTTT-FFF, TTTT-AAAA, bTTTTAAAA, NNNNNNNNN}
use Rattle.layout.specs.declared.packing.Origin.TheVariants.{Given, TypeNumber, PartSize, AddendumCount, RecordNumber, DebitCount, DebitCents, MicrCents, ViewCount, CreditCount, CreditCents, BundleCount, LetterCount, RecordCount, ItemCount}
use Rattle.layout.specs.Layout.{Layout, layout, line, part, M, C, none, any_number, not_judged, numbers, only, clipped_by, routing}

-- Clause 7 File Header Record (Type 01): 14 fields, 80 bytes
abbrev pub file_header : Layout
file_header =
    layout 1 80 14
    (
    line 1 M TypeNumber 1 2 2 N (only 1) ∷  -- Record Type
    line 2 M Given 3 4 2 N StandardLevel ∷  -- Standard Level
    line 3 M Given 5 5 1 AN (Code FileTypes) ∷  -- File Type Indicator
    line 4 M Given 6 14 9 NBD (routing (TTTTAAAAC ∷ TTTTT-FFF ∷ NNNNNNNNN ∷ [])) ∷  -- Immediate Destination Routing Number
    line 5 M Given 15 23 9 NBD (routing (TTTTAAAAC ∷ TTTTT-FFF ∷ NNNNNNNNN ∷ [])) ∷  -- Immediate Origin Routing Number
    line 6 M Given 24 31 8 N Date ∷  -- File Creation Date
    line 7 M Given 32 35 4 N HoursMinutes ∷  -- File Creation Time
    line 8 M Given 36 36 1 A (Code YesNo) ∷  -- Resend Indicator
    line 9 C Given 37 54 18 ANS none ∷  -- Immediate Destination Name
    line 10 C Given 55 72 18 ANS none ∷  -- Immediate Origin Name
    line 11 C Given 73 73 1 AN none ∷  -- File ID Modifier
    line 12 C Given 74 75 2 AN none ∷  -- Country Code
    line 13 C Given 76 79 4 ANS none ∷  -- User Field
    line 14 M Given 80 80 1 AB none ∷  -- Reserved
    [])
    ([])

-- Clause 8 Cash Letter Header Record (Type 10): 14 fields, 80 bytes
abbrev pub cash_letter_header : Layout
cash_letter_header =
    layout 10 80 14
    (
    line 1 M TypeNumber 1 2 2 N (only 10) ∷  -- Record Type
    line 2 M Given 3 4 2 N CollectionType ∷  -- Collection Type Indicator
    line 3 M Given 5 13 9 NBD (routing (TTTTAAAAC ∷ TTTTT-FFF ∷ NNNNNNNNN ∷ [])) ∷  -- Destination Routing Number
    line 4 M Given 14 22 9 NBD (routing (TTTTAAAAC ∷ TTTTT-FFF ∷ NNNNNNNNN ∷ [])) ∷  -- ECE Institution Routing Number
    line 5 M Given 23 30 8 N Date ∷  -- Cash Letter Business Date
    line 6 M Given 31 38 8 N Date ∷  -- Cash Letter Creation Date
    line 7 M Given 39 42 4 N HoursMinutes ∷  -- Cash Letter Creation Time
    line 8 M Given 43 43 1 AN (Code RecordTypeIndicators) ∷  -- Cash Letter Record Type Indicator
    line 9 C Given 44 44 1 AN (Code CashLetterDocumentation) ∷  -- Cash Letter Documentation Type Indicator
    line 10 C Given 45 52 8 AN none ∷  -- Cash Letter ID
    line 11 C Given 53 66 14 ANS none ∷  -- Originator Contact Name
    line 12 C Given 67 76 10 NB none ∷  -- Originator Contact Phone Number
    line 13 C Given 77 78 2 AN (numbers 1 99) ∷  -- Work Type
    line 14 C Given 79 80 2 ANS none ∷  -- User Field
    [])
    ([])

-- Clause 9 Bundle Header Record (Type 20): 13 fields, 80 bytes
abbrev pub bundle_header : Layout
bundle_header =
    layout 20 80 13
    (
    line 1 M TypeNumber 1 2 2 N (only 20) ∷  -- Record Type
    line 2 M Given 3 4 2 N BundleCollectionType ∷  -- Collection Type Indicator
    line 3 M Given 5 13 9 NBD (routing (TTTTAAAAC ∷ TTTTT-FFF ∷ NNNNNNNNN ∷ [])) ∷  -- Bundle Destination Routing Number
    line 4 M Given 14 22 9 NBD (routing (TTTTAAAAC ∷ TTTTT-FFF ∷ NNNNNNNNN ∷ [])) ∷  -- Bundle ECE Institution Routing Number
    line 5 M Given 23 30 8 N Date ∷  -- Bundle Business Date
    line 6 C Given 31 38 8 NB Date ∷  -- Bundle Creation Date
    line 7 C Given 39 48 10 AN none ∷  -- Bundle ID
    line 8 C Given 49 52 4 NB none ∷  -- Bundle Sequence Number
    line 9 C Given 53 54 2 AN none ∷  -- Cycle Number
    line 10 C Given 55 63 9 NBD (routing (TTTTAAAAC ∷ TTTTT-FFF ∷ [])) ∷  -- Return Location Routing Number
    line 11 C Given 64 67 4 NB HoursMinutes ∷  -- Bundle Creation Time
    line 12 C Given 68 73 6 ANS none ∷  -- User Field
    line 13 M Given 74 80 7 AB none ∷  -- Reserved
    [])
    ([])

-- Clause 10 Check Detail Record (Type 25): 14 fields, 80 bytes
abbrev pub check_detail : Layout
check_detail =
    layout 25 80 14
    (
    line 1 M TypeNumber 1 2 2 N (only 25) ∷  -- Record Type
    line 2 C Given 3 17 15 NBMcd none ∷  -- Auxiliary On-Us
    line 3 C Given 18 18 1 NBMc none ∷  -- External Processing Code
    line 4 M Given 19 27 9 NBMcd (routing (TTTTAAAAC ∷ TTTTT-FFF ∷ TTTT-AAAA ∷ bTTTTAAAA ∷ [])) ∷  -- Payor Bank Routing Number
    line 5 C Given 28 47 20 NBMcdo none ∷  -- On-Us
    line 6 M Given 48 57 10 N none ∷  -- Item Amount
    line 7 M Given 58 72 15 NB none ∷  -- ECE Institution Item Sequence Number
    line 8 C Given 73 73 1 AN (Code ItemDocumentation) ∷  -- Documentation Type Indicator
    line 9 C Given 74 74 1 AN (Code ReturnAcceptance) ∷  -- Electronic Return Acceptance Indicator
    line 10 C Given 75 75 1 NB (numbers 1 4) ∷  -- MICR Valid Indicator
    line 11 C Given 76 76 1 A (Code YesNoUnknown) ∷  -- BOFD Indicator
    line 12 M AddendumCount 77 78 2 N (numbers 0 99) ∷  -- Check Detail Record Addendum Count
    line 13 C Given 79 79 1 AN (numbers 0 4) ∷  -- Correction Indicator
    line 14 C Given 80 80 1 AN (Code ArchiveTypes) ∷  -- Archive Type Indicator
    [])
    ([])

-- Clause 11 Check Detail Addendum A Record (Type 26): 14 fields, 115 bytes
abbrev pub check_detail_addendum_a : Layout
check_detail_addendum_a =
    layout 26 115 14
    (
    line 1 M TypeNumber 1 2 2 N (only 26) ∷  -- Record Type
    line 2 M RecordNumber 3 3 1 N none ∷  -- Check Detail Addendum A Record Number
    line 3 C Given 4 12 9 NBD (routing (TTTTAAAAC ∷ TTTTT-FFF ∷ [])) ∷  -- Return Location Routing Number
    line 4 C Given 13 20 8 NB Date ∷  -- BOFD Business Endorsement Date
    line 5 C Given 21 35 15 NB none ∷  -- BOFD Item Sequence Number
    line 6 C Given 36 53 18 ANS none ∷  -- Deposit Account Number at BOFD
    line 7 C Given 54 58 5 ANS none ∷  -- BOFD Deposit Branch
    line 8 C Given 59 108 50 ANS none ∷  -- Payee Name
    line 9 C Given 109 109 1 A (Code YesNo) ∷  -- Truncation Indicator
    line 10 C Given 110 110 1 AN (numbers 0 8) ∷  -- BOFD Conversion Indicator
    line 11 C Given 111 111 1 AN (numbers 0 4) ∷  -- BOFD Correction Indicator
    line 12 C Given 112 112 1 AN (numbers 0 3) ∷  -- BOFD Magnetic Read Indicator
    line 13 C Given 113 113 1 ANS none ∷  -- User Field
    line 14 M Given 114 115 2 AB none ∷  -- Reserved
    [])
    ([])

-- Clause 12 Check Detail Addendum B Record (Type 27): 18 fields, fixed part of 73 bytes
abbrev pub check_detail_addendum_b : Layout
check_detail_addendum_b =
    layout 27 73 18
    (
    line 1 M TypeNumber 1 2 2 N (only 27) ∷  -- Record Type
    line 2 C Given 3 22 20 ANS none ∷  -- Item Description
    line 3 C Given 23 30 8 NB Date ∷  -- Image Capture Date
    line 4 C Given 31 36 6 NB HoursMinutesSeconds ∷  -- Image Capture Time
    line 5 C Given 37 51 15 NB none ∷  -- Microfilm Archive Sequence Number
    line 6 M PartSize 52 55 4 N any_number ∷  -- Length of Image Archive Locator
    line 7 M PartSize 56 57 2 N (numbers 0 99) ∷  -- Length of Captured Unparsed MICR Data
    line 8 M PartSize 58 59 2 N (numbers 0 99) ∷  -- Length of Captured High Unparsed MICR Data
    line 9 M PartSize 60 61 2 N (numbers 0 99) ∷  -- Length of Corrected Unparsed MICR Data
    line 10 M PartSize 62 63 2 N (numbers 0 99) ∷  -- Length of Corrected High Unparsed MICR Data
    line 11 M PartSize 64 68 5 N any_number ∷  -- Length of User Data
    line 12 M Given 69 73 5 AB none ∷  -- Reserved
    [])
    (
    part 13 6 ANS ∷  -- Image Archive Locator
    part 14 7 NBMU ∷  -- Captured Unparsed MICR Data
    part 15 8 NBMU ∷  -- Captured High Unparsed MICR Data
    part 16 9 NBMU ∷  -- Corrected Unparsed MICR Data
    part 17 10 NBMU ∷  -- Corrected High Unparsed MICR Data
    part 18 11 ANS ∷  -- User Field
    [])

-- Clause 13 Check Detail Addendum C Record (Type 28): 14 fields, 80 bytes
abbrev pub check_detail_addendum_c : Layout
check_detail_addendum_c =
    layout 28 80 14
    (
    line 1 M TypeNumber 1 2 2 N (only 28) ∷  -- Record Type
    line 2 M RecordNumber 3 4 2 N none ∷  -- Check Detail Addendum C Record Number
    line 3 C Given 5 13 9 NBD (routing (TTTTAAAAC ∷ TTTTT-FFF ∷ [])) ∷  -- Endorsing Bank Routing Number
    line 4 C Given 14 21 8 NB Date ∷  -- Endorsing Bank Endorsement Date
    line 5 C Given 22 36 15 NB none ∷  -- Endorsing Bank Item Sequence Number
    line 6 C Given 37 37 1 A (Code YesNo) ∷  -- Truncation Indicator
    line 7 C Given 38 38 1 AN (numbers 0 8) ∷  -- Endorsing Bank Conversion Indicator
    line 8 C Given 39 39 1 AN (numbers 0 4) ∷  -- Endorsing Bank Correction Indicator
    line 9 C Given 40 41 2 AN not_judged ∷  -- Return Reason
    line 10 C Given 42 42 1 AN (numbers 0 3) ∷  -- Endorsing Bank Magnetic Read Indicator
    line 11 C Given 43 43 1 AN (numbers 0 3) ∷  -- Endorsing Bank Identifier
    line 12 C Given 44 61 18 ANS none ∷  -- Deposit Account Number at BOFD
    line 13 C Given 62 76 15 ANS none ∷  -- User Field
    line 14 M Given 77 80 4 AB none ∷  -- Reserved
    [])
    ([])

-- Clause 14 Return Record (Type 31): 9 fields, 80 bytes
abbrev pub return_record : Layout
return_record =
    layout 31 80 9
    (
    line 1 M TypeNumber 1 2 2 N (only 31) ∷  -- Record Type
    line 2 C Given 3 17 15 NBMcd none ∷  -- Auxiliary On-Us
    line 3 C Given 18 18 1 NBMc none ∷  -- External Processing Code
    line 4 M Given 19 27 9 NBMcd (routing (TTTTAAAAC ∷ TTTTT-FFF ∷ TTTT-AAAA ∷ bTTTTAAAA ∷ [])) ∷  -- Payor Bank Routing Number
    line 5 C Given 28 47 20 NBMcdo none ∷  -- On-Us
    line 6 M Given 48 57 10 N none ∷  -- Item Amount
    line 7 M Given 58 72 15 NB none ∷  -- ECE Institution Item Sequence Number
    line 8 M AddendumCount 73 74 2 N (numbers 0 99) ∷  -- Return Record Addendum Count
    line 9 M Given 75 80 6 AB none ∷  -- Reserved
    [])
    ([])

-- Clause 15 Return Addendum A Record (Type 32): 14 fields, 115 bytes
abbrev pub return_addendum_a : Layout
return_addendum_a =
    layout 32 115 14
    (
    line 1 M TypeNumber 1 2 2 N (only 32) ∷  -- Record Type
    line 2 M RecordNumber 3 3 1 N none ∷  -- Return Addendum A Record Number
    line 3 C Given 4 12 9 NBD (routing (TTTTAAAAC ∷ TTTTT-FFF ∷ [])) ∷  -- Return Location Routing Number
    line 4 C Given 13 20 8 NBQ Date ∷  -- BOFD Business Endorsement Date
    line 5 C Given 21 35 15 NBQ none ∷  -- BOFD Item Sequence Number
    line 6 C Given 36 53 18 ANS none ∷  -- Deposit Account Number at BOFD
    line 7 C Given 54 58 5 ANS none ∷  -- BOFD Deposit Branch
    line 8 C Given 59 108 50 ANS none ∷  -- Payee Name
    line 9 C Given 109 109 1 A (Code YesNo) ∷  -- Truncation Indicator
    line 10 C Given 110 110 1 AN (numbers 0 8) ∷  -- BOFD Conversion Indicator
    line 11 C Given 111 111 1 AN (numbers 0 4) ∷  -- BOFD Correction Indicator
    line 12 C Given 112 112 1 AN (numbers 0 3) ∷  -- BOFD Magnetic Read Indicator
    line 13 C Given 113 113 1 ANS none ∷  -- User Field
    line 14 M Given 114 115 2 AB none ∷  -- Reserved
    [])
    ([])

-- Clause 16 Return Addendum B Record (Type 33): 11 fields, 80 bytes
abbrev pub return_addendum_b : Layout
return_addendum_b =
    layout 33 80 11
    (
    line 1 M TypeNumber 1 2 2 N (only 33) ∷  -- Record Type
    line 2 M Given 3 4 2 AN not_judged ∷  -- Return Reason
    line 3 C Given 5 12 8 NB Date ∷  -- Forward Bundle Date
    line 4 C Given 13 14 2 AN not_judged ∷  -- Additional Return Reason
    line 5 C Given 15 15 1 NB (numbers 0 3) ∷  -- Number of Times Returned
    line 6 C Given 16 16 1 AN (Code ItemDocumentation) ∷  -- Return Documentation Type Indicator
    line 7 C Given 17 17 1 AN (Code ArchiveTypes) ∷  -- Archive Type Indicator
    line 8 C Given 18 35 18 ANS none ∷  -- Payor Bank Name
    line 9 C Given 36 50 15 NB none ∷  -- Payor Bank Item Sequence Number
    line 10 C Given 51 58 8 NB Date ∷  -- Payor Bank Business Date
    line 11 C Given 59 80 22 ANS none ∷  -- Payor Account Name
    [])
    ([])

-- Clause 17 Return Addendum C Record (Type 34): 18 fields, fixed part of 73 bytes
abbrev pub return_addendum_c : Layout
return_addendum_c =
    layout 34 73 18
    (
    line 1 M TypeNumber 1 2 2 N (only 34) ∷  -- Record Type
    line 2 C Given 3 22 20 ANS none ∷  -- Item Description
    line 3 C Given 23 30 8 NB Date ∷  -- Image Capture Date
    line 4 C Given 31 36 6 NB HoursMinutesSeconds ∷  -- Image Capture Time
    line 5 C Given 37 51 15 NB none ∷  -- Microfilm Archive Sequence Number
    line 6 M PartSize 52 55 4 N any_number ∷  -- Length of Image Archive Locator
    line 7 M PartSize 56 57 2 N (numbers 0 99) ∷  -- Length of Captured Unparsed MICR Data
    line 8 M PartSize 58 59 2 N (numbers 0 99) ∷  -- Length of Captured High Unparsed MICR Data
    line 9 M PartSize 60 61 2 N (numbers 0 99) ∷  -- Length of Corrected Unparsed MICR Data
    line 10 M PartSize 62 63 2 N (numbers 0 99) ∷  -- Length of Corrected High Unparsed MICR Data
    line 11 M PartSize 64 68 5 N any_number ∷  -- Length of User Data
    line 12 M Given 69 73 5 AB none ∷  -- Reserved
    [])
    (
    part 13 6 ANS ∷  -- Image Archive Locator
    part 14 7 NBMU ∷  -- Captured Unparsed MICR Data
    part 15 8 NBMU ∷  -- Captured High Unparsed MICR Data
    part 16 9 NBMU ∷  -- Corrected Unparsed MICR Data
    part 17 10 NBMU ∷  -- Corrected High Unparsed MICR Data
    part 18 11 ANS ∷  -- User Field
    [])

-- Clause 18 Return Addendum D Record (Type 35): 14 fields, 80 bytes
abbrev pub return_addendum_d : Layout
return_addendum_d =
    layout 35 80 14
    (
    line 1 M TypeNumber 1 2 2 N (only 35) ∷  -- Record Type
    line 2 M RecordNumber 3 4 2 N none ∷  -- Return Addendum D Record Number
    line 3 C Given 5 13 9 NBD (routing (TTTTAAAAC ∷ TTTTT-FFF ∷ [])) ∷  -- Endorsing Bank Routing Number
    line 4 C Given 14 21 8 NB Date ∷  -- Endorsing Bank Endorsement Date
    line 5 C Given 22 36 15 NB none ∷  -- Endorsing Bank Item Sequence Number
    line 6 C Given 37 37 1 A (Code YesNo) ∷  -- Truncation Indicator
    line 7 C Given 38 38 1 AN (numbers 0 8) ∷  -- Endorsing Bank Conversion Indicator
    line 8 C Given 39 39 1 AN (numbers 0 4) ∷  -- Endorsing Bank Correction Indicator
    line 9 C Given 40 41 2 AN not_judged ∷  -- Return Reason
    line 10 C Given 42 42 1 AN (numbers 0 3) ∷  -- Endorsing Bank Magnetic Read Indicator
    line 11 C Given 43 43 1 AN (numbers 0 3) ∷  -- Endorsing Bank Identifier
    line 12 C Given 44 61 18 ANS none ∷  -- Deposit Account Number at BOFD
    line 13 C Given 62 76 15 ANS none ∷  -- User Field
    line 14 M Given 77 80 4 AB none ∷  -- Reserved
    [])
    ([])

-- Clause 21 Image View Detail Record (Type 50): 23 fields, 80 bytes
abbrev pub image_view_detail : Layout
image_view_detail =
    layout 50 80 23
    (
    line 1 M TypeNumber 1 2 2 N (only 50) ∷  -- Record Type
    line 2 M Given 3 3 1 AN (numbers 0 3) ∷  -- Image Indicator
    line 3 M Given 4 12 9 NBD (routing (TTTTAAAAC ∷ TTTTT-FFF ∷ NNNNNNNNN ∷ [])) ∷  -- Image Creator Routing Number
    line 4 M Given 13 20 8 N Date ∷  -- Image Creator Date
    line 5 M Given 21 22 2 AN (numbers 0 99) ∷  -- Image View Format Indicator
    line 6 M Given 23 24 2 AN (numbers 0 99) ∷  -- Image View Compression Algorithm Identifier
    line 7 M Given 25 25 1 AN (numbers 0 4) ∷  -- Image View Type
    line 8 M Given 26 26 1 AN (numbers 0 1) ∷  -- View Side Indicator
    line 9 M Given 27 28 2 AN (numbers 0 99) ∷  -- View Descriptor
    line 10 M Given 29 29 1 AN (numbers 0 1) ∷  -- Digital Signature Indicator
    line 11 C Given 30 31 2 AN OneOrTwoDigits ∷  -- Digital Signature Hash Function Method
    line 12 C Given 32 33 2 AN OneOrTwoDigits ∷  -- Digital Signature Cryptographic Algorithm Method
    line 13 C Given 34 43 10 ANS not_judged ∷  -- DSA/RSA Key Size or ECC Curve Number
    line 14 M Given 44 44 1 AN (numbers 0 1) ∷  -- Digital Certificate Indicator
    line 15 C Given 45 46 2 AN (numbers 0 99) ∷  -- Digital Certificate Format
    line 16 C Given 47 48 2 AN (numbers 0 99) ∷  -- Digital Certificate Conveyance Method
    line 17 M Given 49 55 7 N any_number ∷  -- Start of Protected Data
    line 18 M Given 56 62 7 N any_number ∷  -- Length of Protected Data
    line 19 C Given 63 63 1 AN (numbers 0 1) ∷  -- Image Recreate Indicator
    line 20 C Given 64 64 1 AN (Code TestOverrides) ∷  -- Image Test Override Indicator
    line 21 C Given 65 70 6 NB HoursMinutesSeconds ∷  -- Image Capture Time
    line 22 C Given 71 76 6 ANS none ∷  -- User Field
    line 23 M Given 77 80 4 AB none ∷  -- Reserved
    [])
    ([])

-- Clause 22 Image View Data Record (Type 52): 28 fields, fixed part of 139 bytes
abbrev pub image_view_data : Layout
image_view_data =
    layout 52 139 28
    (
    line 1 M TypeNumber 1 2 2 N (only 52) ∷  -- Record Type
    line 2 M Given 3 11 9 NBD (routing (TTTTAAAAC ∷ TTTTT-FFF ∷ NNNNNNNNN ∷ [])) ∷  -- ECE Institution Routing Number
    line 3 M Given 12 19 8 N Date ∷  -- Bundle Business Date
    line 4 C Given 20 21 2 AN none ∷  -- Cycle Number
    line 5 M Given 22 36 15 NB none ∷  -- ECE Institution Item Sequence Number
    line 6 C Given 37 52 16 ANS none ∷  -- Security Originator Name
    line 7 C Given 53 68 16 ANS none ∷  -- Security Authenticator Name
    line 8 C Given 69 84 16 ANS none ∷  -- Security Key Name
    line 9 M Given 85 85 1 AN (numbers 0 4) ∷  -- Clipping Origin
    line 10 M Given 86 89 4 N (clipped_by 85) ∷  -- Clipping Coordinate h1
    line 11 M Given 90 93 4 N (clipped_by 85) ∷  -- Clipping Coordinate h2
    line 12 M Given 94 97 4 N (clipped_by 85) ∷  -- Clipping Coordinate v1
    line 13 M Given 98 101 4 N (clipped_by 85) ∷  -- Clipping Coordinate v2
    line 14 M Given 102 103 2 N (numbers 0 99) ∷  -- Ancillary Data Indicator
    line 15 M PartSize 104 107 4 N any_number ∷  -- Length of Image Reference Key
    line 16 M PartSize 108 112 5 N any_number ∷  -- Length of Digital Signature
    line 17 M PartSize 113 117 5 N any_number ∷  -- Length of Digital Certificate Issuer Distinguished Name
    line 18 M PartSize 118 122 5 N any_number ∷  -- Length of Digital Certificate Serial Number
    line 19 M PartSize 123 127 5 N any_number ∷  -- Length of Digital Certificate
    line 20 M PartSize 128 134 7 N any_number ∷  -- Length of Image Data
    line 21 M PartSize 135 139 5 N any_number ∷  -- Length of Ancillary Data
    [])
    (
    part 22 15 ANS ∷  -- Image Reference Key
    part 23 16 Binary ∷  -- Digital Signature
    part 24 17 ANS ∷  -- Digital Certificate Issuer Distinguished Name
    part 25 18 ANS ∷  -- Digital Certificate Serial Number
    part 26 19 Binary ∷  -- Digital Certificate
    part 27 20 Binary ∷  -- Image Data
    part 28 21 Binary ∷  -- Ancillary Data
    [])

-- Clause 23 Image View Analysis Record (Type 54): 47 fields, 80 bytes
abbrev pub image_view_analysis : Layout
image_view_analysis =
    layout 54 80 47
    (
    line 1 M TypeNumber 1 2 2 N (only 54) ∷  -- Record Type
    line 2 M Given 3 3 1 AN (numbers 0 2) ∷  -- Global Image Defect
    line 3 M Given 4 4 1 AN (numbers 0 2) ∷  -- Global Image Usability
    line 4 M Given 5 5 1 AN (numbers 0 2) ∷  -- Imaging Bank Specific Test
    line 5 C Given 6 6 1 AN (numbers 0 2) ∷  -- Partial Image
    line 6 C Given 7 7 1 AN (numbers 0 2) ∷  -- Excessive Image Skew
    line 7 C Given 8 8 1 AN (numbers 0 2) ∷  -- Piggyback Image
    line 8 C Given 9 9 1 AN (numbers 0 2) ∷  -- Too Light
    line 9 C Given 10 10 1 AN (numbers 0 2) ∷  -- Too Dark
    line 10 C Given 11 11 1 AN (numbers 0 2) ∷  -- Streaks and or Bands
    line 11 C Given 12 12 1 AN (numbers 0 2) ∷  -- Below Minimum Image Size
    line 12 C Given 13 13 1 AN (numbers 0 2) ∷  -- Exceeds Maximum Image Size
    line 13 M Given 14 14 1 AB none ∷  -- Reserved
    line 14 M Given 15 15 1 AB none ∷  -- Reserved
    line 15 M Given 16 16 1 AB none ∷  -- Reserved
    line 16 M Given 17 17 1 AB none ∷  -- Reserved
    line 17 M Given 18 18 1 AB none ∷  -- Reserved
    line 18 M Given 19 19 1 AB none ∷  -- Reserved
    line 19 M Given 20 20 1 AB none ∷  -- Reserved
    line 20 M Given 21 21 1 AB none ∷  -- Reserved
    line 21 M Given 22 22 1 AB none ∷  -- Reserved
    line 22 M Given 23 23 1 AB none ∷  -- Reserved
    line 23 M Given 24 24 1 AB none ∷  -- Reserved
    line 24 M Given 25 25 1 AB none ∷  -- Reserved
    line 25 M Given 26 26 1 AB none ∷  -- Reserved
    line 26 C Given 27 27 1 AN (numbers 0 2) ∷  -- Image-Enabled POD
    line 27 C Given 28 28 1 AN (numbers 0 2) ∷  -- Source Document Bad
    line 28 C Given 29 29 1 AN (numbers 0 2) ∷  -- Date (Issue) Usability
    line 29 C Given 30 30 1 AN (numbers 0 2) ∷  -- Payee Usability
    line 30 C Given 31 31 1 AN (numbers 0 2) ∷  -- Convenience Amount Usability
    line 31 C Given 32 32 1 AN (numbers 0 2) ∷  -- Amount in Words (Legal Amount) Usability
    line 32 C Given 33 33 1 AN (numbers 0 2) ∷  -- Signature (Payor) Usability
    line 33 C Given 34 34 1 AN (numbers 0 2) ∷  -- Payor Name and Address Usability
    line 34 C Given 35 35 1 AN (numbers 0 2) ∷  -- MICR Line Usability
    line 35 C Given 36 36 1 AN (numbers 0 2) ∷  -- Memo Line Usability
    line 36 C Given 37 37 1 AN (numbers 0 2) ∷  -- Payor Bank Name and Address Usability
    line 37 C Given 38 38 1 AN (numbers 0 2) ∷  -- Payee Endorsement Usability
    line 38 C Given 39 39 1 AN (numbers 0 2) ∷  -- Bank of First Deposit Endorsement Usability
    line 39 C Given 40 40 1 AN (numbers 0 2) ∷  -- Transit Endorsement Usability
    line 40 M Given 41 41 1 AB none ∷  -- Reserved
    line 41 M Given 42 42 1 AB none ∷  -- Reserved
    line 42 M Given 43 43 1 AB none ∷  -- Reserved
    line 43 M Given 44 44 1 AB none ∷  -- Reserved
    line 44 M Given 45 45 1 AB none ∷  -- Reserved
    line 45 M Given 46 46 1 AB none ∷  -- Reserved
    line 46 C Given 47 66 20 ANS none ∷  -- User Field
    line 47 M Given 67 80 14 AB none ∷  -- Reserved
    [])
    ([])

-- Clause 26 Credit/Reconciliation Record (Type 61): 12 fields, 84 bytes
abbrev pub credit_record : Layout
credit_record =
    layout 61 84 12
    (
    line 1 M TypeNumber 1 2 2 N (only 61) ∷  -- Record Type
    line 2 C Given 3 3 1 AN (numbers 1 9) ∷  -- Record Usage Indicator
    line 3 C Given 4 18 15 NBMcd none ∷  -- Auxiliary On-Us
    line 4 C Given 19 19 1 NBMc none ∷  -- External Processing Code
    line 5 M Given 20 28 9 NBMcd (routing (TTTTAAAAC ∷ TTTTT-FFF ∷ [])) ∷  -- Posting Bank Routing Number
    line 6 C Given 29 48 20 NBMcdo none ∷  -- Posting Account Number (On-Us)
    line 7 M Given 49 62 14 N none ∷  -- Item Amount
    line 8 M Given 63 77 15 NB none ∷  -- Item Sequence Number
    line 9 C Given 78 78 1 AN (Code ItemDocumentation) ∷  -- Documentation Type Indicator
    line 10 C Given 79 79 1 AN (Code AccountTypes) ∷  -- Type of Account Code
    line 11 C Given 80 81 2 AN SourceOfWork ∷  -- Source of Work Code
    line 12 M Given 82 84 3 AB none ∷  -- Reserved
    [])
    ([])

-- Clause 31 Bundle Control Record (Type 70): 9 fields, 80 bytes
abbrev pub bundle_control : Layout
bundle_control =
    layout 70 80 9
    (
    line 1 M TypeNumber 1 2 2 N (only 70) ∷  -- Record Type
    line 2 M DebitCount 3 6 4 N none ∷  -- Bundle Debit Item Count
    line 3 M DebitCents 7 18 12 N none ∷  -- Bundle Debit Total Amount
    line 4 C MicrCents 19 30 12 NB AllDigits ∷  -- MICR Valid Debit Total Amount
    line 5 M ViewCount 31 35 5 N none ∷  -- Bundle Image View Record Count
    line 6 M CreditCount 36 39 4 N none ∷  -- Bundle Credit Item Count
    line 7 M CreditCents 40 51 12 N none ∷  -- Bundle Credit Total Amount
    line 8 C Given 52 60 9 ANS none ∷  -- User Field
    line 9 M Given 61 80 20 AB none ∷  -- Reserved
    [])
    ([])

-- Clause 34 Cash Letter Control Record (Type 90): 9 fields, 85 bytes
abbrev pub cash_letter_control : Layout
cash_letter_control =
    layout 90 85 9
    (
    line 1 M TypeNumber 1 2 2 N (only 90) ∷  -- Record Type
    line 2 M BundleCount 3 8 6 N none ∷  -- Bundle Count
    line 3 M DebitCount 9 16 8 N none ∷  -- Cash Letter Debit Item Count
    line 4 M DebitCents 17 30 14 N none ∷  -- Cash Letter Debit Total Amount
    line 5 M ViewCount 31 39 9 N none ∷  -- Cash Letter Image View Record Count
    line 6 C Given 40 55 16 ANS none ∷  -- ECE Institution Name
    line 7 C Given 56 63 8 NB Date ∷  -- Settlement Date
    line 8 M CreditCount 64 71 8 N none ∷  -- Cash Letter Credit Item Count
    line 9 M CreditCents 72 85 14 N none ∷  -- Cash Letter Credit Total Amount
    [])
    ([])

-- Clause 35 File Control Record (Type 99): 8 fields, 80 bytes
abbrev pub file_control : Layout
file_control =
    layout 99 80 8
    (
    line 1 M TypeNumber 1 2 2 N (only 99) ∷  -- Record Type
    line 2 M LetterCount 3 8 6 N none ∷  -- Cash Letter Count
    line 3 M RecordCount 9 16 8 N none ∷  -- Total Record Count
    line 4 M ItemCount 17 24 8 N none ∷  -- Total Item Count
    line 5 M DebitCents 25 40 16 N none ∷  -- File Debit Total Amount
    line 6 C Given 41 54 14 ANS none ∷  -- Immediate Origin Contact Name
    line 7 C Given 55 64 10 NB none ∷  -- Immediate Origin Contact Phone Number
    line 8 M CreditCents 65 80 16 N none ∷  -- File Credit Total Amount
    [])
    ([])

-- the kinds that are carried: those of document 01, and 61 (request 2)
abbrev pub layouts : List Layout
layouts =
    file_header ∷
    cash_letter_header ∷
    bundle_header ∷
    check_detail ∷
    check_detail_addendum_a ∷
    check_detail_addendum_b ∷
    check_detail_addendum_c ∷
    return_record ∷
    return_addendum_a ∷
    return_addendum_b ∷
    return_addendum_c ∷
    return_addendum_d ∷
    image_view_detail ∷
    image_view_data ∷
    image_view_analysis ∷
    credit_record ∷
    bundle_control ∷
    cash_letter_control ∷
    file_control ∷
    []
