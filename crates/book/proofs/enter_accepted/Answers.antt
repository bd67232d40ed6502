use mathlib.Core.Bool.{true, ◌&&◌}
use mathlib.Core.Path.{◌≡◌, refl, sym, ap, ap₂, ◌∙◌}
use Prim.Native.Nat.{ℕ, ◌+◌, ◌-◌}
use native.Mathlib.Omega.{arith}
use lib.Dec.{leb}
use lib.ListN.{get_or}
use Rattle.passes.specs.declared.Fault.TheVariants.{Room, Duplicate, Range, Full}
use Rattle.passes.proofs.Passes.{accepted-small}
use Rattle.figures.specs.Figures.{figures, plus, fits}
use Rattle.net.specs.Net.{within}
use Rattle.letters.specs.Letters.{letters_of}
use Rattle.letters.proofs.Theorem.{AcceptedLetters, accepted-letters}
use Rattle.book_model.specs.Entering.{Entered}
use Rattle.book_model.specs.PlainList.{position_of, entries_on, keeps_range, has_room}
use Rattle.book_model.specs.Table.{last_number, running_totals, rows_used, free_rows, gaps, entries_of, own_of, free_in, placed}
use Rattle.book_model.proofs.Laws.{sound}
use Rattle.book_gaps.proofs.Laws.{used_in}
use Rattle.book.proofs.Accepted.{as-built, HasRoom, no_room, duplicate, beyond, full, enters, filled, range-is, room-is, has_room_lem, raisable, book-raised}
use Rattle.book.proofs.enter_accepted.Goals as goal

pub keeps_range-requires : goal.keeps_range-requires
keeps_range-requires c = (sound c.args.book.now c.requires.0).nets c.args.owner c.requires.2

pub rows_used-used-requires : goal.rows_used-used-requires
rows_used-used-requires c = omega (arith, c.number_at-claimed.ensures, (sound c.args.book.now c.requires.0).claims)

pub fill-requires : goal.fill-requires
fill-requires c = (accepted-small c.args.file.now c.args.totals c.requires.3, omega (arith, c.requires.4, c.if-table-needed.false))

pub returns-then-table-needed : goal.returns-then-table-needed
returns-then-table-needed c =
    let letters : AcceptedLetters c.args.file.now c.args.totals = accepted-letters c.args.file.now c.args.totals (λ i. omega (arith, c.type_inv.file i)) c.requires.3 in
    record { answer = as-built c.of_file.result Room c.args.totals.records.0 c.of_file.ensures ∙ no_room c.args.file.now c.args.table.now c.args.book.now c.args.list.now c.args.number c.args.owner c.args.totals c.requires.0 c.requires.1 c.requires.2 c.requires.3 letters c.if-table-needed.true; rows = refl; book = refl; list = refl }

pub returns-then-is_taken : goal.returns-then-is_taken
returns-then-is_taken c =
    let letters : AcceptedLetters c.args.file.now c.args.totals = accepted-letters c.args.file.now c.args.totals (λ i. omega (arith, c.type_inv.file i)) c.requires.3 in
    record { answer = as-built c.of_file-then-is_taken.result Duplicate 0 c.of_file-then-is_taken.ensures ∙ duplicate c.args.file.now c.args.table.now c.args.book.now c.args.list.now c.args.number c.args.owner c.args.totals c.requires.0 c.requires.1 c.requires.2 c.requires.3 letters c.if-table-needed.false (sym c.is_taken.ensures ∙ c.if-is_taken.true); rows = refl; book = refl; list = refl }

pub returns-then-not-keeps_range : goal.returns-then-not-keeps_range
returns-then-not-keeps_range c =
    let letters : AcceptedLetters c.args.file.now c.args.totals = accepted-letters c.args.file.now c.args.totals (λ i. omega (arith, c.type_inv.file i)) c.requires.3 in
    let ranged : keeps_range (own_of c.args.owner c.args.book.now c.args.list.now) (letters_of c.args.file.now) ≡ c.keeps_range.result = range-is c.args.file.now c.args.table.now c.args.book.now c.args.list.now c.args.number c.args.owner c.args.totals c.requires.0 c.requires.1 c.requires.2 c.requires.3 letters ∙ sym c.keeps_range.ensures in
    record { answer = as-built c.of_file-then-not-keeps_range.result Range 0 c.of_file-then-not-keeps_range.ensures ∙ beyond c.args.file.now c.args.table.now c.args.book.now c.args.list.now c.args.number c.args.owner c.args.totals c.requires.0 c.requires.1 c.requires.2 c.requires.3 letters c.if-table-needed.false (sym c.is_taken.ensures ∙ c.if-is_taken.false) (ranged ∙ c.if-not-keeps_range.true); rows = refl; book = refl; list = refl }

pub overflow_sub-free : goal.overflow_sub-free
overflow_sub-free c =
    omega (arith, c.rows_used-used.ensures.within, c.rows_there.ensures, c.number_at-claimed.ensures, (sound c.args.book.now c.requires.0).claims)

pub returns-then-not-has_place-has_room : goal.returns-then-not-has_place-has_room
unfolding entries_of
returns-then-not-has_place-has_room c =
    let letters : AcceptedLetters c.args.file.now c.args.totals = accepted-letters c.args.file.now c.args.totals (λ i. omega (arith, c.type_inv.file i)) c.requires.3 in
    let ranged : keeps_range (own_of c.args.owner c.args.book.now c.args.list.now) (letters_of c.args.file.now) ≡ c.keeps_range.result = range-is c.args.file.now c.args.table.now c.args.book.now c.args.list.now c.args.number c.args.owner c.args.totals c.requires.0 c.requires.1 c.requires.2 c.requires.3 letters ∙ sym c.keeps_range.ensures in
    let kept : keeps_range (own_of c.args.owner c.args.book.now c.args.list.now) (letters_of c.args.file.now) ≡ true = ranged ∙ c.if-not-keeps_range.false in
    let counted : used_in c.args.book.now c.number_at-claimed.result 17 ≡ rows_used c.args.book.now = ap (λ (n : ℕ). used_in c.args.book.now n 17) c.number_at-claimed.ensures in
    let used : c.rows_used-used.result ≡ rows_used c.args.book.now = c.rows_used-used.ensures.count ∙ counted in
    let free : c.rows_there.result - c.rows_used-used.result ≡ free_rows c.args.book.now = ap₂ (λ (k n : ℕ). k - n) c.rows_there.ensures used in
    let tested : has_room (own_of c.args.owner c.args.book.now c.args.list.now) (free_in c.args.book.now c.args.list.now) (letters_of c.args.file.now) ≡ c.has_place.result && c.has_room.result = room-is c.args.file.now c.args.table.now c.args.book.now c.args.list.now c.args.number c.args.owner c.args.totals c.requires.0 c.requires.1 c.requires.2 c.requires.3 letters
    ∙ ap₂ ◌&&◌ (sym c.has_place.ensures)
    (ap (λ (n : ℕ). leb c.args.totals.letters n && fits (plus (running_totals c.args.owner c.args.book.now) (figures c.args.totals.bundles c.args.totals.sums)) && leb (last_number c.args.owner c.args.book.now + c.args.totals.letters) 0xFFFF_FFFF_FFFF_FFFF) (sym free) ∙ sym c.has_room.ensures) in
    record { answer = as-built c.of_file-then-not-has_place-has_room.result Full 0 c.of_file-then-not-has_place-has_room.ensures ∙ full c.args.file.now c.args.table.now c.args.book.now c.args.list.now c.args.number c.args.owner c.args.totals c.requires.0 c.requires.1 c.requires.2 c.requires.3 letters c.if-table-needed.false (sym c.is_taken.ensures ∙ c.if-is_taken.false) kept (tested ∙ c.if-not-has_place-has_room.true); rows = refl; book = refl; list = refl }

pub put_letters-requires : goal.put_letters-requires
unfolding entries_of
put_letters-requires c =
    let letters : AcceptedLetters c.args.file.now c.args.totals = accepted-letters c.args.file.now c.args.totals (λ i. omega (arith, c.type_inv.file i)) c.requires.3 in
    let counted : used_in c.args.book.now c.number_at-claimed.result 17 ≡ rows_used c.args.book.now = ap (λ (n : ℕ). used_in c.args.book.now n 17) c.number_at-claimed.ensures in
    let used : c.rows_used-used.result ≡ rows_used c.args.book.now = c.rows_used-used.ensures.count ∙ counted in
    let free : c.rows_there.result - c.rows_used-used.result ≡ free_rows c.args.book.now = ap₂ (λ (k n : ℕ). k - n) c.rows_there.ensures used in
    let tested : has_room (own_of c.args.owner c.args.book.now c.args.list.now) (free_in c.args.book.now c.args.list.now) (letters_of c.args.file.now) ≡ c.has_place.result && c.has_room.result = room-is c.args.file.now c.args.table.now c.args.book.now c.args.list.now c.args.number c.args.owner c.args.totals c.requires.0 c.requires.1 c.requires.2 c.requires.3 letters
    ∙ ap₂ ◌&&◌ (sym c.has_place.ensures)
    (ap (λ (n : ℕ). leb c.args.totals.letters n && fits (plus (running_totals c.args.owner c.args.book.now) (figures c.args.totals.bundles c.args.totals.sums)) && leb (last_number c.args.owner c.args.book.now + c.args.totals.letters) 0xFFFF_FFFF_FFFF_FFFF) (sym free) ∙ sym c.has_room.ensures) in
    let roomy : has_room (own_of c.args.owner c.args.book.now c.args.list.now) (free_in c.args.book.now c.args.list.now) (letters_of c.args.file.now) ≡ true = tested ∙ c.if-not-has_place-has_room.false in
    let room : HasRoom c.args.file.now c.args.book.now c.args.list.now c.args.owner c.args.totals = has_room_lem c.args.file.now c.args.table.now c.args.book.now c.args.list.now c.args.number c.args.owner c.args.totals c.requires.0 c.requires.1 c.requires.2 c.requires.3 letters roomy in
    let last : c.number_at-last.result ≡ last_number c.args.owner c.args.book.now = c.number_at-last.ensures ∙ ap (λ (n : ℕ). get_or c.args.book.now n 0) c.block_of.ensures.place in
    (accepted-small c.args.file.now c.args.totals c.requires.3, omega (arith, room.claims, c.number_at-claimed.ensures), omega (arith, room.rows, room.letters, counted), omega (arith, room.numbers, room.letters, last))

pub raise_head-requires : goal.raise_head-requires
unfolding entries_of
raise_head-requires c =
    let letters : AcceptedLetters c.args.file.now c.args.totals = accepted-letters c.args.file.now c.args.totals (λ i. omega (arith, c.type_inv.file i)) c.requires.3 in
    let last : c.number_at-last.result ≡ last_number c.args.owner c.args.book.now = c.number_at-last.ensures ∙ ap (λ (n : ℕ). get_or c.args.book.now n 0) c.block_of.ensures.place in
    let written : c.put_letters.new.book ≡ placed c.args.owner c.args.book.now (get_or c.args.book.now 0 0) 17 (entries_on (last_number c.args.owner c.args.book.now) c.args.number (letters_of c.args.file.now)) = c.put_letters.ensures ∙ ap₂ (λ (k n : ℕ). placed c.args.owner c.args.book.now k 17 (entries_on n c.args.number (letters_of c.args.file.now))) c.number_at-claimed.ensures last in
    let counted : used_in c.args.book.now c.number_at-claimed.result 17 ≡ rows_used c.args.book.now = ap (λ (n : ℕ). used_in c.args.book.now n 17) c.number_at-claimed.ensures in
    let used : c.rows_used-used.result ≡ rows_used c.args.book.now = c.rows_used-used.ensures.count ∙ counted in
    let more : c.saturating_sub.result ≡ c.args.totals.letters - gaps c.args.book.now = c.saturating_sub.ensures ∙ ap₂ (λ (k n : ℕ). c.args.totals.letters - (k - n)) c.number_at-claimed.ensures used in
    let free : c.rows_there.result - c.rows_used-used.result ≡ free_rows c.args.book.now = ap₂ (λ (k n : ℕ). k - n) c.rows_there.ensures used in
    let tested : has_room (own_of c.args.owner c.args.book.now c.args.list.now) (free_in c.args.book.now c.args.list.now) (letters_of c.args.file.now) ≡ c.has_place.result && c.has_room.result = room-is c.args.file.now c.args.table.now c.args.book.now c.args.list.now c.args.number c.args.owner c.args.totals c.requires.0 c.requires.1 c.requires.2 c.requires.3 letters
    ∙ ap₂ ◌&&◌ (sym c.has_place.ensures)
    (ap (λ (n : ℕ). leb c.args.totals.letters n && fits (plus (running_totals c.args.owner c.args.book.now) (figures c.args.totals.bundles c.args.totals.sums)) && leb (last_number c.args.owner c.args.book.now + c.args.totals.letters) 0xFFFF_FFFF_FFFF_FFFF) (sym free) ∙ sym c.has_room.ensures) in
    let roomy : has_room (own_of c.args.owner c.args.book.now c.args.list.now) (free_in c.args.book.now c.args.list.now) (letters_of c.args.file.now) ≡ true = tested ∙ c.if-not-has_place-has_room.false in
    let room : HasRoom c.args.file.now c.args.book.now c.args.list.now c.args.owner c.args.totals = has_room_lem c.args.file.now c.args.table.now c.args.book.now c.args.list.now c.args.number c.args.owner c.args.totals c.requires.0 c.requires.1 c.requires.2 c.requires.3 letters roomy in
    let ranged : keeps_range (own_of c.args.owner c.args.book.now c.args.list.now) (letters_of c.args.file.now) ≡ c.keeps_range.result = range-is c.args.file.now c.args.table.now c.args.book.now c.args.list.now c.args.number c.args.owner c.args.totals c.requires.0 c.requires.1 c.requires.2 c.requires.3 letters ∙ sym c.keeps_range.ensures in
    let kept : keeps_range (own_of c.args.owner c.args.book.now c.args.list.now) (letters_of c.args.file.now) ≡ true = ranged ∙ c.if-not-keeps_range.false in
    let within_bound : within (position_of (plus (running_totals c.args.owner c.args.book.now) (figures c.args.totals.bundles c.args.totals.sums))) ≡ true = sym (range-is c.args.file.now c.args.table.now c.args.book.now c.args.list.now c.args.number c.args.owner c.args.totals c.requires.0 c.requires.1 c.requires.2 c.requires.3 letters) ∙ kept in
    raisable c.args.file.now c.args.book.now c.args.list.now c.args.number c.args.owner c.args.totals letters c.put_letters.new.book written c.saturating_sub.result more room within_bound (omega (arith, c.well_formed))

pub put_taken-requires : goal.put_taken-requires
unfolding entries_of
put_taken-requires c =
    let letters : AcceptedLetters c.args.file.now c.args.totals = accepted-letters c.args.file.now c.args.totals (λ i. omega (arith, c.type_inv.file i)) c.requires.3 in
    let counted : used_in c.args.book.now c.number_at-claimed.result 17 ≡ rows_used c.args.book.now = ap (λ (n : ℕ). used_in c.args.book.now n 17) c.number_at-claimed.ensures in
    let used : c.rows_used-used.result ≡ rows_used c.args.book.now = c.rows_used-used.ensures.count ∙ counted in
    let free : c.rows_there.result - c.rows_used-used.result ≡ free_rows c.args.book.now = ap₂ (λ (k n : ℕ). k - n) c.rows_there.ensures used in
    let tested : has_room (own_of c.args.owner c.args.book.now c.args.list.now) (free_in c.args.book.now c.args.list.now) (letters_of c.args.file.now) ≡ c.has_place.result && c.has_room.result = room-is c.args.file.now c.args.table.now c.args.book.now c.args.list.now c.args.number c.args.owner c.args.totals c.requires.0 c.requires.1 c.requires.2 c.requires.3 letters
    ∙ ap₂ ◌&&◌ (sym c.has_place.ensures)
    (ap (λ (n : ℕ). leb c.args.totals.letters n && fits (plus (running_totals c.args.owner c.args.book.now) (figures c.args.totals.bundles c.args.totals.sums)) && leb (last_number c.args.owner c.args.book.now + c.args.totals.letters) 0xFFFF_FFFF_FFFF_FFFF) (sym free) ∙ sym c.has_room.ensures) in
    let roomy : has_room (own_of c.args.owner c.args.book.now c.args.list.now) (free_in c.args.book.now c.args.list.now) (letters_of c.args.file.now) ≡ true = tested ∙ c.if-not-has_place-has_room.false in
    let room : HasRoom c.args.file.now c.args.book.now c.args.list.now c.args.owner c.args.totals = has_room_lem c.args.file.now c.args.table.now c.args.book.now c.args.list.now c.args.number c.args.owner c.args.totals c.requires.0 c.requires.1 c.requires.2 c.requires.3 letters roomy in
    (c.requires.1, room.place)

pub overflow_add-result : goal.overflow_add-result
unfolding entries_of
overflow_add-result c =
    let letters : AcceptedLetters c.args.file.now c.args.totals = accepted-letters c.args.file.now c.args.totals (λ i. omega (arith, c.type_inv.file i)) c.requires.3 in
    let counted : used_in c.args.book.now c.number_at-claimed.result 17 ≡ rows_used c.args.book.now = ap (λ (n : ℕ). used_in c.args.book.now n 17) c.number_at-claimed.ensures in
    let used : c.rows_used-used.result ≡ rows_used c.args.book.now = c.rows_used-used.ensures.count ∙ counted in
    let free : c.rows_there.result - c.rows_used-used.result ≡ free_rows c.args.book.now = ap₂ (λ (k n : ℕ). k - n) c.rows_there.ensures used in
    let tested : has_room (own_of c.args.owner c.args.book.now c.args.list.now) (free_in c.args.book.now c.args.list.now) (letters_of c.args.file.now) ≡ c.has_place.result && c.has_room.result = room-is c.args.file.now c.args.table.now c.args.book.now c.args.list.now c.args.number c.args.owner c.args.totals c.requires.0 c.requires.1 c.requires.2 c.requires.3 letters
    ∙ ap₂ ◌&&◌ (sym c.has_place.ensures)
    (ap (λ (n : ℕ). leb c.args.totals.letters n && fits (plus (running_totals c.args.owner c.args.book.now) (figures c.args.totals.bundles c.args.totals.sums)) && leb (last_number c.args.owner c.args.book.now + c.args.totals.letters) 0xFFFF_FFFF_FFFF_FFFF) (sym free) ∙ sym c.has_room.ensures) in
    let roomy : has_room (own_of c.args.owner c.args.book.now c.args.list.now) (free_in c.args.book.now c.args.list.now) (letters_of c.args.file.now) ≡ true = tested ∙ c.if-not-has_place-has_room.false in
    let room : HasRoom c.args.file.now c.args.book.now c.args.list.now c.args.owner c.args.totals = has_room_lem c.args.file.now c.args.table.now c.args.book.now c.args.list.now c.args.number c.args.owner c.args.totals c.requires.0 c.requires.1 c.requires.2 c.requires.3 letters roomy in
    let last : c.number_at-last.result ≡ last_number c.args.owner c.args.book.now = c.number_at-last.ensures ∙ ap (λ (n : ℕ). get_or c.args.book.now n 0) c.block_of.ensures.place in
    omega (arith, room.numbers, room.some, last)

pub returns : goal.returns
unfolding entries_of
returns c =
    let letters : AcceptedLetters c.args.file.now c.args.totals = accepted-letters c.args.file.now c.args.totals (λ i. omega (arith, c.type_inv.file i)) c.requires.3 in
    let ranged : keeps_range (own_of c.args.owner c.args.book.now c.args.list.now) (letters_of c.args.file.now) ≡ c.keeps_range.result = range-is c.args.file.now c.args.table.now c.args.book.now c.args.list.now c.args.number c.args.owner c.args.totals c.requires.0 c.requires.1 c.requires.2 c.requires.3 letters ∙ sym c.keeps_range.ensures in
    let kept : keeps_range (own_of c.args.owner c.args.book.now c.args.list.now) (letters_of c.args.file.now) ≡ true = ranged ∙ c.if-not-keeps_range.false in
    let counted : used_in c.args.book.now c.number_at-claimed.result 17 ≡ rows_used c.args.book.now = ap (λ (n : ℕ). used_in c.args.book.now n 17) c.number_at-claimed.ensures in
    let used : c.rows_used-used.result ≡ rows_used c.args.book.now = c.rows_used-used.ensures.count ∙ counted in
    let free : c.rows_there.result - c.rows_used-used.result ≡ free_rows c.args.book.now = ap₂ (λ (k n : ℕ). k - n) c.rows_there.ensures used in
    let tested : has_room (own_of c.args.owner c.args.book.now c.args.list.now) (free_in c.args.book.now c.args.list.now) (letters_of c.args.file.now) ≡ c.has_place.result && c.has_room.result = room-is c.args.file.now c.args.table.now c.args.book.now c.args.list.now c.args.number c.args.owner c.args.totals c.requires.0 c.requires.1 c.requires.2 c.requires.3 letters
    ∙ ap₂ ◌&&◌ (sym c.has_place.ensures)
    (ap (λ (n : ℕ). leb c.args.totals.letters n && fits (plus (running_totals c.args.owner c.args.book.now) (figures c.args.totals.bundles c.args.totals.sums)) && leb (last_number c.args.owner c.args.book.now + c.args.totals.letters) 0xFFFF_FFFF_FFFF_FFFF) (sym free) ∙ sym c.has_room.ensures) in
    let roomy : has_room (own_of c.args.owner c.args.book.now c.args.list.now) (free_in c.args.book.now c.args.list.now) (letters_of c.args.file.now) ≡ true = tested ∙ c.if-not-has_place-has_room.false in
    let last : c.number_at-last.result ≡ last_number c.args.owner c.args.book.now = c.number_at-last.ensures ∙ ap (λ (n : ℕ). get_or c.args.book.now n 0) c.block_of.ensures.place in
    let written : c.put_letters.new.book ≡ placed c.args.owner c.args.book.now (get_or c.args.book.now 0 0) 17 (entries_on (last_number c.args.owner c.args.book.now) c.args.number (letters_of c.args.file.now)) = c.put_letters.ensures ∙ ap₂ (λ (k n : ℕ). placed c.args.owner c.args.book.now k 17 (entries_on n c.args.number (letters_of c.args.file.now))) c.number_at-claimed.ensures last in
    let more : c.saturating_sub.result ≡ c.args.totals.letters - gaps c.args.book.now = c.saturating_sub.ensures ∙ ap₂ (λ (k n : ℕ). c.args.totals.letters - (k - n)) c.number_at-claimed.ensures used in
    record { answer = ap (λ (n : ℕ). Entered (n + 1) c.args.totals) last ∙ enters c.args.file.now c.args.table.now c.args.book.now c.args.list.now c.args.number c.args.owner c.args.totals c.requires.0 c.requires.1 c.requires.2 c.requires.3 letters c.if-table-needed.false (sym c.is_taken.ensures ∙ c.if-is_taken.false) kept roomy; rows = c.fill.ensures ∙ sym (filled c.args.file.now c.args.table.now c.args.book.now c.args.list.now c.args.number c.args.owner c.args.totals c.requires.0 c.requires.1 c.requires.2 c.requires.3 letters c.if-table-needed.false); book = book-raised c.args.file.now c.args.book.now c.args.list.now c.args.number c.args.owner c.args.totals letters c.put_letters.new.book written c.saturating_sub.result more c.raise_head.new.book c.raise_head.ensures; list = c.put_taken.ensures }
