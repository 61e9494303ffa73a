-- The entries that a value of the code holds, and what stands behind them.
use Rattle.std.specs.Prelude.{List, take}
use Rattle.slips.specs.declared.entry.Action.TheVariants.{Show}
use Rattle.slips.specs.declared.entry.Entry.{Entry}
use Rattle.slips.specs.declared.entries.Entries.{Entries}

abbrev pub entries_of : Entries → List Entry
entries_of es = take es.len es.items

abbrev pub blank : Entry
blank = record { key = 0; part = 0; action = Show 0 }
