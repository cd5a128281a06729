-- Clients as actors.
use Rattle.coda_disk.specs.Told.{Told}
use Rattle.coda_journal.specs.declared.header.Kind.TheVariants.{Client}
use Rattle.coda_venus.specs.History.{Payload, payload_of, MayFollow, IsHistory}
use Rattle.coda_venus.specs.Standing.{IsUp}
use Rattle.coda_venus.specs.declared.venus.Venus.{Venus}
use Rattle.coda_actors.specs.Form.{Form}

-- A client asks for a client's header, and writes at once the entries of one payload.
abbrev pub client_form : {D : Type 0} → (D → Told) → Form (Venus D) D
client_form told = record {
  owner = Client;
  Entry = Payload;
  payload_of = payload_of;
  IsHistory = IsHistory;
  MayFollow = MayFollow;
  disk = λ venus. venus.journal.disk;
  is_down = λ venus. venus.down;
  IsUp = IsUp told;
}
