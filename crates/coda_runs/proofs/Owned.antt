-- Over blank disks, each disk is its own.
use Rattle.std.proofs.Common.{◌≡◌, ℕ, Bool, true, false, List, [], ◌∷◌, Some, is_some, refl, sym, ap, ◌∙◌, subst, inl, inr}
use Rattle.coda_actors.specs.Plain.{PlainDisk, PlainActor, Mounts}
use Rattle.coda_actors.specs.declared.slot.Mounting.{Mounting}
use Rattle.coda_actors.specs.declared.slot.Mounting.TheVariants.{Entries, Foreign, DiskFault, Memory}
use Rattle.coda_engine.specs.Run.{Runs}
use Rattle.coda_journal.specs.declared.header.Header.{Header}
use Rattle.coda_plain.specs.Cell.{ClientEntry}
use Rattle.coda_plain.specs.Decisions.{ReplicaEntry}
use Rattle.coda_script.specs.declared.line.Line.{Line}
use Rattle.coda_script.specs.declared.reply.Reply.{Reply}
use Rattle.coda_cell.specs.State.{put}
use Rattle.coda_shelves.specs.Shelves.{blank_shelves, client_header}
use Rattle.coda_shelves.specs.Cells.{Cell, begun_on, asked}
use Rattle.coda_shelves.specs.Lines.{IsTold, needs, is_down_for, is_others, made_on, area_of, with_row, with_made}
use Rattle.coda_shelves.proofs.FromBlank.{runs_from_blank, not_there}
use Rattle.coda_shelves.proofs.Keeping.{shelves_are_kept}
use Rattle.coda_shelves.proofs.Mounting.{at_put}
use Rattle.coda_shelves.proofs.Taken.{mounted_taken}
use Rattle.coda_runs.specs.Again.{StandsOnOthers, RecoveriesFindTheirOwn}
use Rattle.coda_runs.specs.Shelved.{LineGives}
use Rattle.coda_runs.proofs.Becoming.{Becomes, Stayed, ClientMoved, ReplicaMoved, ClientComes, VolumeComes, HasActed, becomes, Body, body, acts_so}
use Rattle.coda_runs.proofs.Mounted.{clients_stand, replicas_stand}
use Rattle.coda_runs.proofs.Shelved.{runs_blank}

-- whose disk has a header asks for it
abbrev AreOwn : Body → Type 0
AreOwn b = (client : ℕ) (header : Header) → (b.clients client).disk.header ≡ Some header → asked (b.clients client).life ≡ Some header

-- another client, on a disk that has its header if any
client_owns : (b : Body) (client : ℕ) (actor : PlainActor ClientEntry) → ((header : Header) → actor.disk.header ≡ Some header → asked actor.life ≡ Some header) → AreOwn b → AreOwn (record b { clients = put b.clients client actor })
client_owns b client actor own all = at_put (λ c a. (header : Header) → a.disk.header ≡ Some header → asked a.life ≡ Some header) b.clients client actor own all

-- a disk that was mounted has the header that it had, or the one that is asked for
mounted_owns : (header h : Header) (old new : PlainDisk ClientEntry) (ending : Mounting) → Mounts header old ending new → (old.header ≡ Some h → Some header ≡ Some h) → new.header ≡ Some h → Some header ≡ Some h
mounted_owns header h old new ending m was is = elim (mounted_taken (λ x. x ≡ header) header old new ending refl m).label [
  | inl same ↦ was (ap (λ (d : PlainDisk ClientEntry). d.header) (sym same) ∙ is)
  | inr (other, has, own, had) ↦ ap Some (sym own) ∙ sym has ∙ is
]

made_owns : (old : Cell) (client area : ℕ) (header : Header) (disk : PlainDisk ClientEntry) (ending : Mounting) → IsTold ending → Mounts header (old.clients client).disk ending disk → is_some (asked (old.clients client).life) ≡ false → AreOwn (body old)
    → AreOwn (body (with_made (is_others (ending ∷ [])) old client area (made_on false header (old.clients client) disk ending)))
made_owns old client area header disk ending told mounts none own = by ending told mounts
  where
    never : (h : Header) → (old.clients client).disk.header ≡ Some h → Some header ≡ Some h
    never h is = (let no : false ≡ true = sym none ∙ ap is_some (own client h is) in cc)

    by : (ending : Mounting) → IsTold ending → Mounts header (old.clients client).disk ending disk → AreOwn (body (with_made (is_others (ending ∷ [])) old client area (made_on false header (old.clients client) disk ending)))
    by (Entries count) told mounts = client_owns (body old) client (made_on false header (old.clients client) disk (Entries count)) (λ h is. mounted_owns header h (old.clients client).disk disk (Entries count) mounts (never h) is) own
    by DiskFault told mounts = client_owns (body old) client (made_on false header (old.clients client) disk DiskFault) (λ h is. mounted_owns header h (old.clients client).disk disk DiskFault mounts (never h) is) own
    by (Foreign at) told mounts = own
    by Memory told mounts = absurd told

row_owns : (others : Bool) (old : Cell) (volume : ℕ) (servers : List ℕ) (area : ℕ) (row : ℕ → PlainActor ReplicaEntry) → AreOwn (body old) → AreOwn (body (with_row others old volume servers area row))
row_owns true old volume servers area row own = own
row_owns false old volume servers area row own = own

becomes_own : (old : Cell) (said : Line) (reply : Reply) (outside : List (List ℕ)) (new : Cell) → Becomes old said reply outside new → AreOwn (body old) → AreOwn (body new)
becomes_own old said reply outside new (Stayed quiet whole is) own = subst (λ c. AreOwn (body c)) (sym is) own
becomes_own old said reply outside new (ClientMoved client actor quiet whole moved is) own = subst (λ c. AreOwn (body c)) (sym is) (client_owns (body old) client actor (λ h has. moved.still ∙ elim moved.disk [
  | inl same ↦ sym moved.asks ∙ own client h (ap (λ (d : PlainDisk ClientEntry). d.header) (sym same) ∙ has)
  | inr (ending, mounts) ↦ mounted_owns moved.header h (old.clients client).disk actor.disk ending mounts (λ was. sym moved.asks ∙ own client h was) has
]) own)
becomes_own old said reply outside new (ReplicaMoved row server actor quiet whole moved is) own = subst (λ c. AreOwn (body c)) (sym is) own
becomes_own old said reply outside new (ClientComes client blocks area says free (ending, disk, told, mounts, answered, out, is)) own =
    subst (λ c. AreOwn (body c)) (sym is) (made_owns old client (area_of area) (client_header client blocks (area_of area)) disk ending told mounts (not_there (is_some (asked (old.clients client).life)) _ free) own)
becomes_own old said reply outside new (VolumeComes volume servers area says free (endings, row, mounts, answered, out, is)) own = subst (λ c. AreOwn (body c)) (sym is) (row_owns (is_others endings) old volume servers (area_of area) row own)
becomes_own old said reply outside new (HasActed acting does) own =
    acts_so AreOwn (λ b client actor asks all. client_owns b client actor (λ h is. asks.asks ∙ all client h (sym asks.header ∙ is)) all) (λ b row server actor asks all. all) old said reply outside new (is_down_for (needs old said)) does own

gives_own : (old new : Cell) (bytes text : List ℕ) (outside : List (List ℕ)) → AreOwn (body old) → LineGives old bytes text outside new → AreOwn (body new)
gives_own old new bytes text outside own (inl silent) = subst (λ c. AreOwn (body c)) (sym silent.3) own
gives_own old new bytes text outside own (inr x) = becomes_own old x.said x.reply outside new (becomes old x.reply outside new x.said x.happens) own

runs_own : (old new : Cell) (ls : List (List ℕ)) (report : List ℕ) (outside : List (List ℕ)) → AreOwn (body old) → Runs LineGives old ls report outside new → AreOwn (body new)
runs_own old new [] report outside own run = subst (λ c. AreOwn (body c)) (sym run.2) own
runs_own old new (l ∷ more) report outside own run = runs_own run.0 new more run.2 run.4 (gives_own old run.0 l run.1 run.3 own run.5) run.6

own_stands : {E : Type 0} (actor : PlainActor E) → ((header : Header) → actor.disk.header ≡ Some header → asked actor.life ≡ Some header) → StandsOnOthers actor → ⊥
own_stands actor own (header, asks, (other, has, differs)) = (let same : Some other ≡ Some header = sym (own other has) ∙ asks in let one : other ≡ header = cc in differs one)

pub recoveries_find_their_own : RecoveriesFindTheirOwn
recoveries_find_their_own = record {
  first = λ cell new ls report outside answered client server volume at run. (
    λ does. own_stands (cell.clients client) (runs_own (begun_on blank_shelves) cell ls report outside (λ c h is. cc) run client) (clients_stand cell new client at answered does),
    λ does.
        let stands = replicas_stand cell new server volume at answered does in
        let begun = shelves_are_kept.begins blank_shelves shelves_are_kept.blank in
        own_stands (cell.replicas stands.0.row server) ((runs_blank (begun_on blank_shelves) cell ls report outside begun runs_from_blank.first run).given stands.0.row server) stands.2,
  );
  clients = clients_stand;
  replicas = replicas_stand;
}
