-- How document 01's ordered checks are written: a fault unless a test holds, and where it holds what is asked next.
use Rattle.std.specs.Prelude.{Bool, true, false}

abbrev pub unless : {A : Type 0} → Bool → A → A → A
unless true fault next = next
unless false fault next = fault
