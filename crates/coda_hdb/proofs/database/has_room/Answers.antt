use Rattle.std.proofs.Common.{◌≤◌, ◌∙◌, ◌||◌, ap, sym, length, arith}
use Rattle.std.specs.Map.{values_of}
use Rattle.std.proofs.lemmas.Bool.{le-ltb}
use Rattle.std.proofs.lemmas.List.{length-map}
use Rattle.coda_hdb.specs.declared.entry.HdbEntry.{HdbEntry}
use Rattle.coda_hdb.specs.Kept.{Place}
use Rattle.coda_hdb.specs.Database.{has_place}
use Rattle.coda_hdb.proofs.Places.{looked}
use Rattle.coda_hdb.proofs.database.has_room.Goals as goal

pub returns-else-len-lt-ENTRIES : goal.returns-else-len-lt-ENTRIES
returns-else-len-lt-ENTRIES c volume path of =
    let pairs = c.args.entries.now.entries in
    let long = length-map pairs (λ (p : Place × HdbEntry). p.1) in
    let full : 1024 ≤ length (values_of pairs) = omega (arith, long, c.len.ensures.len, c.if-len-lt-ENTRIES.false) in
    c.contains_key.ensures ∙ looked c.args.place.now volume path of pairs c.requires
    ∙ ap (λ b. b || has_place (values_of pairs) volume path) (sym (le-ltb (length (values_of pairs)) 1024 full))
