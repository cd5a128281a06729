-- What entries of clients leave of the kinds of objects that they hold.
use Rattle.std.proofs.Common.{◌≡◌, ℕ, true, List, [], ◌∷◌, Option, Some, None, refl, ap, ◌∙◌, inl, inr}
use Rattle.std.proofs.Common.{◌⊎◌, cond, subst}
use Rattle.std.proofs.lemmas.Bool.{eq-eqb}
use Rattle.std.specs.FinMap as map
use Rattle.coda_fid.specs.declared.fid.Fid.{Fid}
use Rattle.coda_fid.specs.declared.op.Op.{Op}
use Rattle.coda_fid.specs.declared.op.Op.TheVariants.{Create, Mkdir, Symlink, Store, Setattr, Remove, Rmdir, Rename}
use Rattle.coda_fid.specs.declared.op.Record.{Record}
use Rattle.coda_certify.specs.Replay.{applied}
use Rattle.coda_plain.specs.Deeds.{Deed, operation_in, full_of, Operated, Froze, Settled, Gaveup}
use Rattle.coda_plain.specs.Cell.{ClientEntry, Fetched, Did, Dropping, deed_on}
use Rattle.coda_venus.specs.Accepting.{Sight}
use Rattle.coda_venus.specs.Held.{Parents, Held, taken_out, stays, held_without, parents_after, held_after_operation}
use Rattle.coda_venus.proofs.Accepted.{Relies, accepted_relies}
use Rattle.coda_cell.specs.Accepting.{sight_of}
use Rattle.coda_cell.specs.Held.{held_after_deed, held_after_drops, held_after}
use Rattle.coda_cell.specs.State.{ClientState, client_after, client_after_all}
use Rattle.coda_histories.proofs.Ways.{left_was}
use Rattle.coda_creations.specs.Kinds.{Kind, kind_of, kind_in, kind_at, makes, ClientsKeepKinds}
use Rattle.coda_creations.proofs.KindsKept.{GoesByDirs, node_there, put_kind, take_kind, kind_operated}

-- ---- an operation

pub relied_dirs : (s : Sight) (volume : ℕ) (op : Op) → Relies s volume op → GoesByDirs s.held.nodes op
relied_dirs s volume (Create dir name fid mode owner) r = r.place.dir_there
relied_dirs s volume (Mkdir dir name fid mode owner) r = r.place.dir_there
relied_dirs s volume (Symlink dir name fid target mode owner) r = r.place.dir_there
relied_dirs s volume (Store fid pre content) r = tt
relied_dirs s volume (Setattr fid pre attrs) r = tt
relied_dirs s volume (Remove dir name fid pre) r = r.0.dir_there
relied_dirs s volume (Rmdir dir name fid pre) r = r.0.dir_there
relied_dirs s volume (Rename from_dir from to_dir to fid over) r = (r.places.from_there, r.places.to_there)

-- what is left when something goes is as it was
without_kind : (gone : Option Fid) (parents : Parents) (h : Held) (f : Fid) (kind : Kind)
    → kind_at (held_without gone parents h).nodes f ≡ Some kind → kind_at h.nodes f ≡ Some kind
without_kind None parents h f kind is = is
without_kind (Some gone) parents h f kind is =
    let n = node_there (map.get (map.retain_keys h.nodes (stays parents gone)) f) kind is in
    ap kind_in (left_was h.nodes (stays parents gone) f n.0 n.1).1 ∙ ap Some n.2

operation_kind : (held : Held) (client : ℕ) (rec : Record) (f : Fid) (kind : Kind) → GoesByDirs held.nodes rec.op
    → kind_at (held_after_operation held client rec).nodes f ≡ Some kind
    → (kind_at held.nodes f ≡ Some kind) ⊎ (makes f kind rec.op ≡ true)
operation_kind held client rec f kind dirs is =
    let behind : Held = record { nodes = applied held.nodes client rec; parents = parents_after held.parents rec.op } in
    kind_operated held.nodes client rec f kind dirs (without_kind (taken_out rec.op) held.parents behind f kind is)

drops_kind : (held : Held) (gone : List Fid) (f : Fid) (kind : Kind)
    → kind_at (held_after_drops held gone).nodes f ≡ Some kind → kind_at held.nodes f ≡ Some kind
drops_kind held [] f kind is = is
drops_kind held (fid ∷ gone) f kind is =
    take_kind held.nodes fid f kind
    (drops_kind (record { nodes = map.remove held.nodes fid; parents = map.remove held.parents fid }) gone f kind
    is)

-- what is no operation leaves what is held
held_still : (held : Held) (client : ℕ) (deed : Deed) → operation_in deed ≡ [] → held_after_deed held client deed ≡ held
held_still held client (Operated rec) none = cc
held_still held client (Froze number home last) none = refl
held_still held client (Settled number verdict) none = refl
held_still held client Gaveup none = refl

pub clients_keep : ClientsKeepKinds
clients_keep = record {
  operated = λ c volume ask rec f kind accepted is.
      operation_kind c.held c.number rec f kind
      (relied_dirs (sight_of c volume) volume rec.op (accepted_relies (sight_of c volume) volume ask rec.op accepted))
      is;
  fetched = λ held at parent node f kind is. put_kind held.nodes at node f kind is;
  dropped = drops_kind;
  settled = held_still;
}

-- ---- an entry

-- an entry goes by directories where it is an operation
abbrev pub EntryGoesByDirs : Held → ClientEntry → Type 0
EntryGoesByDirs held (Fetched fid parent node) = Unit {0}
EntryGoesByDirs held (Did volume (Operated rec)) = GoesByDirs held.nodes rec.op
EntryGoesByDirs held (Did volume (Froze number home last)) = Unit {0}
EntryGoesByDirs held (Did volume (Settled number verdict)) = Unit {0}
EntryGoesByDirs held (Did volume Gaveup) = Unit {0}
EntryGoesByDirs held (Dropping gone entry) = EntryGoesByDirs (held_after_drops held gone) entry

-- the client has the object of this kind by the entry
abbrev pub IsHadBy : Fid → Kind → ClientEntry → Type 0
IsHadBy f kind (Fetched fid parent node) = (f ≡ fid) × (kind_of node.kind ≡ kind)
IsHadBy f kind (Did volume (Operated rec)) = makes f kind rec.op ≡ true
IsHadBy f kind (Did volume (Froze number home last)) = ⊥
IsHadBy f kind (Did volume (Settled number verdict)) = ⊥
IsHadBy f kind (Did volume Gaveup) = ⊥
IsHadBy f kind (Dropping gone entry) = IsHadBy f kind entry

pub held_kind : (held : Held) (client : ℕ) (entry : ClientEntry) (f : Fid) (kind : Kind) → EntryGoesByDirs held entry
    → kind_at (held_after held client entry).nodes f ≡ Some kind
    → (kind_at held.nodes f ≡ Some kind) ⊎ IsHadBy f kind entry
held_kind held client (Fetched fid parent node) f kind goes is = put_kind held.nodes fid node f kind is
held_kind held client (Did volume (Operated rec)) f kind goes is = operation_kind held client rec f kind goes is
held_kind held client (Did volume (Froze number home last)) f kind goes is = inl is
held_kind held client (Did volume (Settled number verdict)) f kind goes is = inl is
held_kind held client (Did volume Gaveup) f kind goes is = inl is
held_kind held client (Dropping gone entry) f kind goes is =
    elim (held_kind (held_after_drops held gone) client entry f kind goes is) [
      | inl was ↦ inl (drops_kind held gone f kind was)
      | inr had ↦ inr had
    ]

-- an entry that is no operation does
pub no_operation : (held : Held) (entry : ClientEntry) → ((volume : ℕ) → full_of (deed_on volume entry) ≡ [])
    → EntryGoesByDirs held entry
no_operation held (Fetched fid parent node) none = tt
no_operation held (Did volume (Operated rec)) none =
    let e : rec ∷ [] ≡ [] = subst (λ b. full_of (cond b (Operated rec ∷ []) []) ≡ []) (eq-eqb volume volume refl)
    (none volume) in
    cc
no_operation held (Did volume (Froze number home last)) none = tt
no_operation held (Did volume (Settled number verdict)) none = tt
no_operation held (Did volume Gaveup) none = tt
no_operation held (Dropping gone entry) none = no_operation (held_after_drops held gone) entry none

-- what a history leaves held, however many blocks the client has
pub held_same : (c d : ClientState) (entries : List ClientEntry) → c.held ≡ d.held → c.number ≡ d.number
    → (client_after_all c entries).held ≡ (client_after_all d entries).held
held_same c d [] same numbers = same
held_same c d (entry ∷ entries) same numbers =
    held_same (client_after c entry) (client_after d entry) entries (λ i. held_after (same i) (numbers i) entry) numbers
