-- The record is there.
use Rattle.std.proofs.Common.{◌≡◌, ◌<◌, true, ltb, length, map, Some, vec_items, sym, ap, ◌∙◌, w64, rules}
use Rattle.std.proofs.lemmas.Bool.{lt-ltb}
use Rattle.std.proofs.lemmas.Int.{to_z-of_z}
use Rattle.std.proofs.lemmas.List.{length-map}
use Rattle.serial.proofs.Places.{read_within}
use Rattle.solo.proofs.solo.Solo.shown.Goals as goal

pub returns : goal.returns
returns g c =
    let k = g.K.Kind.model in
    let m = g.K.Kind.meaning in
    let xs = vec_items c.args.self.now.values in
    let found = c.in_ok-value.ensures.lookup in
    let same : c.in_ok-key.key ≡ c.args.key = search rules in
    let within : c.args.key < length xs = rw (sym c.deref.ensures.value, sym same) found.3.0 in
    let read = read_within m xs c.args.key c.in_ok-value.value.now within (rw (sym c.deref.ensures.value, sym same) found.1) (k.shown c.args.part c.args.number) in
    let shows : k.shows c.args.part c.args.number ≡ true = sym c.shows.ensures ∙ c.if-not-shows.false in
    let there : ltb c.args.key (length (map m xs)) ≡ true = rw length-map (lt-ltb _ _ within) in
    rw (shows, there) (ap Some (to_z-of_z w64 c.shown.result (record { sfits = c.shown.type_inv }) ∙ c.shown.ensures ∙ read))
