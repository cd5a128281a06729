-- What is replied to a line that may ask the bay.
use Rattle.std.proofs.Common.{◌≡◌, ℕ, Bool, true, false, List, [], ◌∷◌, ◌++◌, Option, Some, None, sym, subst}
use Rattle.std.proofs.lemmas.Bool.{false≢true}
use Rattle.coda_actors.specs.Plain.{PlainActor}
use Rattle.coda_actors.specs.declared.slot.Mounting.{Mounting}
use Rattle.coda_actors.specs.declared.slot.Mounting.TheVariants.{Entries, Foreign, DiskFault, Memory}
use Rattle.coda_cell.specs.Refused.{Refused}
use Rattle.coda_journal.specs.declared.header.Header.{Header}
use Rattle.coda_plain.specs.Decisions.{ReplicaEntry}
use Rattle.coda_script.specs.declared.line.Line.{Line}
use Rattle.coda_script.specs.declared.line.Line.TheVariants as line
use Rattle.coda_script.specs.declared.reply.Reply.{Reply}
use Rattle.coda_script.specs.Lines.{line_of}
use Rattle.coda_shelves.specs.Cells.{Cell, Stand, stand_of, with_client, with_replica}
use Rattle.coda_shelves.specs.Lines.{Becoming, Unless, UnlessDown, opening, Payloads, Crashes, client_payloads, replica_payloads, AtReplicaOf, needs, is_down_for, DoesUp, MakesVolume, MakesClient, area_of}
use Rattle.coda_shelves.specs.Shelves.{client_header}
use Rattle.coda_site.specs.Makings.{asks_bay}
use Rattle.coda_runs.specs.Shelved.{Replies}
use Rattle.coda_main.specs.Lines.{IsOfTheBay, WhatAsksTheBayIsOfIt, AsksBay}
use Rattle.coda_main.proofs.Telling.{said_once}

-- what a line does of its own is replied so
IsOwn : Becoming → Type 0
IsOwn own = (reply : Reply) (outside : List (List ℕ)) (new : Cell) → own reply outside new → IsOfTheBay reply

unless_refused : (old : Cell) (why : Option Refused) (own : Becoming) → IsOwn own → IsOwn (Unless old why own)
unfolding IsOwn
unless_refused old (Some why) own is reply outside new stays = subst IsOfTheBay (sym stays.0) tt
unless_refused old None own is reply outside new does = is reply outside new does

unless_down : (down : Bool) (old : Cell) (own : Becoming) → IsOwn own → IsOwn (UnlessDown down old own)
unfolding IsOwn
unless_down true old own is reply outside new stays = subst IsOfTheBay (sym stays.0) tt
unless_down false old own is reply outside new does = is reply outside new does

-- however the disks of an actor's servers are mounted
opening_is : (counts : List ℕ) (faulty : Bool) (endings : List Mounting) → IsOfTheBay (opening counts faulty endings)
opening_is counts false [] = tt
opening_is counts true [] = tt
opening_is counts faulty (Entries count ∷ endings) = opening_is (counts ++ count ∷ []) faulty endings
opening_is counts faulty (Foreign at ∷ endings) = tt
opening_is counts faulty (DiskFault ∷ endings) = opening_is counts true endings
opening_is counts faulty (Memory ∷ endings) = opening_is counts true endings

replica_crashes : (old : Cell) (at : Option Stand) (server : ℕ) → IsOwn (AtReplicaOf old at server (Crashes replica_payloads))
unfolding IsOwn
replica_crashes old None server reply outside new crash = absurd crash
replica_crashes old (Some at) server reply outside new crash = subst IsOfTheBay (sym crash.2.2) tt

client_crashes : (old : Cell) (client : ℕ) → IsOwn (Crashes client_payloads (old.clients client) (with_client old client))
unfolding IsOwn
client_crashes old client reply outside new crash = subst IsOfTheBay (sym crash.2.2) tt

makes_volume : (old : Cell) (volume : ℕ) (servers : List ℕ) (area : ℕ) → IsOwn (MakesVolume old volume servers area)
unfolding IsOwn
makes_volume old volume servers area reply outside new made = subst IsOfTheBay (sym made.3) (opening_is [] false made.0)

makes_client : (old : Cell) (client : ℕ) (header : Header) → IsOwn (MakesClient old client header)
unfolding IsOwn
makes_client old client header reply outside new made = subst IsOfTheBay (sym made.4) (opening_is [] false (made.0 ∷ []))

does_up : (old : Cell) (said : Line) → asks_bay said ≡ true → IsOwn (DoesUp old said)
unfolding IsOwn
does_up old (line.Volume volume servers area) asks = unless_refused old _ _ (makes_volume old volume servers (area_of area))
does_up old (line.Client client blocks area) asks = unless_refused old _ _ (makes_client old client (client_header client blocks (area_of area)))
does_up old (line.CrashClient client choice) asks = unless_refused old _ _ (client_crashes old client)
does_up old (line.CrashReplica server volume choice) asks = unless_refused old _ _ (replica_crashes old (stand_of old volume) server)
does_up old _ asks = absurd (false≢true asks)

pub what_asks_the_bay_is_of_it : WhatAsksTheBayIsOfIt
unfolding IsOwn
what_asks_the_bay_is_of_it old new bytes text outside asks r =
    let said : asks.0 ≡ r.said = said_once (line_of bytes) asks.0 r.said asks.1 r.spelled in
    unless_down (is_down_for (needs old r.said)) old (DoesUp old r.said) (does_up old r.said (subst (λ (l : Line). asks_bay l ≡ true) said asks.2)) r.reply outside new r.happens
