-- Figures with the places of the records with which a 52 is compared all at one offset. Nothing of this has to be believed.
use Rattle.std.specs.Prelude.{ℕ}
use Rattle.standing.specs.declared.Standing.{Standing}

abbrev pub placed_at : Standing → ℕ → Standing
placed_at s o =
    record {
      last = s.last;
      inside = s.inside;
      present = s.present;
      holder = s.holder;
      records = s.records;
      letters = s.letters;
      bundles = s.bundles;
      opened = s.opened;
      items = s.items;
      ordinal = s.ordinal;
      whole = s.whole;
      letter = s.letter;
      bundle = s.bundle;
      micr = s.micr;
      addenda = s.addenda;
      bofd = s.bofd;
      endorser = s.endorser;
      shown = s.shown;
      stated = s.stated;
      item = o;
      header = o;
      heading = o;
      indicator = s.indicator;
      signature = s.signature;
    }
