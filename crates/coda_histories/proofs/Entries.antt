-- Each entry of a client's history keeps what is cached a forest, and so does the history.
use Rattle.std.proofs.Common.{ℕ, List, [], ◌∷◌, ◌++◌, Some, None, sym, subst, ◌∙◌}
use Rattle.std.specs.FinMap as map
use Rattle.coda_fid.specs.Fid.{fid_cmp}
use Rattle.coda_fid.specs.declared.op.Op.{Op as Operation}
use Rattle.coda_fid.specs.declared.op.Op.TheVariants.{Create, Mkdir, Symlink, Store, Setattr, Remove, Rmdir, Rename}
use Rattle.coda_journal.specs.declared.header.Header.{Header}
use Rattle.coda_plain.proofs.Lists.{left_push}
use Rattle.coda_plain.specs.Histories.{left_by, DoFollow}
use Rattle.coda_record.specs.declared.entry.ClientEntry.{ClientEntry}
use Rattle.coda_record.specs.declared.entry.ClientEntry.TheVariants.{Op, Freeze, Settled, Giveup, Fetched, Dropped, Hoard, Snapshot}
use Rattle.std.proofs.lemmas.Option.{none-some}
use Rattle.coda_venus.specs.Accepting.{sight_of}
use Rattle.coda_venus.specs.Held.{Parents}
use Rattle.coda_venus.specs.History.{Payload, MayEnter, MayEnterAll, MayFollow, IsHistory, state_of}
use Rattle.coda_venus.specs.State.{ClientState, new_client, client_after, client_after_all}
use Rattle.coda_venus.proofs.Accepted.{accepted_relies}
use Rattle.coda_histories.specs.Forests.{IsForest, ParentsAreDirs, KeepsKinds, KeepsKindsIn, KeepsKindsThroughout, ReplacesNothing, IsNoReplacement}
use Rattle.coda_histories.proofs.Apart.{accepted_apart}
use Rattle.coda_histories.proofs.Directories.{under_fetched, under_dropped, under_operation}
use Rattle.coda_histories.proofs.Forests.{IsBeside, forest_none, forest_fetched, forest_dropped, forest_operation, beside_dirs}

-- what is cached is a forest below directories
abbrev IsGrown : ClientState → Type 0
IsGrown c = IsForest c.held × ParentsAreDirs c.held

pub made : (number blocks : ℕ) → IsGrown (new_client number blocks)
made number blocks = (forest_none, λ f p is. absurd (none-some p (sym (map.get-empty fid_cmp f) ∙ is)))

-- ---- an entry

pub entered : (c : ClientState) (entry : ClientEntry) → MayEnter c entry → KeepsKinds c entry → IsGrown c → IsGrown (client_after c entry)
entered c (Op volume rec) may keeps grown =
    let s = sight_of c volume in
    let relies = accepted_relies s volume may.ask rec.op may.accepted in
    let beside = beside_dirs s volume rec.op relies grown.1 in (
      forest_operation s volume c.number rec relies (accepted_apart s volume may.ask rec.op may.accepted) beside grown.0,
      under_operation s volume c.number rec relies beside grown.0 grown.1,
    )
entered c (Freeze volume number home last) may keeps grown = grown
entered c (Settled volume number verdict) may keeps grown = grown
entered c (Giveup volume) may keeps grown = grown
entered c (Fetched fid parent node) may keeps grown = (forest_fetched c.held fid parent node may.1 grown.0, under_fetched c.held fid parent node may.1 keeps grown.1)
entered c (Dropped fid) may keeps grown = (forest_dropped c.held fid may.2 grown.0, under_dropped c.held fid may.2 grown.1)
entered c (Hoard change) may keeps grown = absurd may
entered c (Snapshot snapshot) may keeps grown = absurd may

-- what replaces nothing is beside it
nothing_beside : (parents : Parents) (op : Operation) → ReplacesNothing op → IsBeside parents op
nothing_beside parents (Create dir name fid mode owner) none = tt
nothing_beside parents (Mkdir dir name fid mode owner) none = tt
nothing_beside parents (Symlink dir name fid target mode owner) none = tt
nothing_beside parents (Store fid pre content) none = tt
nothing_beside parents (Setattr fid pre attrs) none = tt
nothing_beside parents (Remove dir name fid pre) none = tt
nothing_beside parents (Rmdir dir name fid pre) none = tt
nothing_beside parents (Rename from_dir from to_dir to fid None) none = tt
nothing_beside parents (Rename from_dir from to_dir to fid (Some over)) none = absurd none

pub replacing_nothing : (c : ClientState) (entry : ClientEntry) → MayEnter c entry → IsNoReplacement entry → IsForest c.held → IsForest (client_after c entry).held
replacing_nothing c (Op volume rec) may none forest =
    let s = sight_of c volume in
    forest_operation s volume c.number rec (accepted_relies s volume may.ask rec.op may.accepted) (accepted_apart s volume may.ask rec.op may.accepted) (nothing_beside c.held.parents rec.op none) forest
replacing_nothing c (Freeze volume number home last) may none forest = forest
replacing_nothing c (Settled volume number verdict) may none forest = forest
replacing_nothing c (Giveup volume) may none forest = forest
replacing_nothing c (Fetched fid parent node) may none forest = forest_fetched c.held fid parent node may.1 forest
replacing_nothing c (Dropped fid) may none forest = forest_dropped c.held fid may.2 forest
replacing_nothing c (Hoard change) may none forest = absurd may
replacing_nothing c (Snapshot snapshot) may none forest = absurd may

-- ---- a history

pub entered_all : (c : ClientState) (payload : Payload) → MayEnterAll c payload → KeepsKindsIn c payload → IsGrown c → IsGrown (client_after_all c payload)
entered_all c [] may keeps grown = grown
entered_all c (entry ∷ entries) may keeps grown = entered_all (client_after c entry) entries may.1 keeps.1 (entered c entry may.0 keeps.0 grown)

follows : (header : Header) (past history : List Payload) → DoFollow (MayFollow header) past history → DoFollow (λ before payload. KeepsKindsIn (state_of header before) payload) past history → IsGrown (state_of header past)
    → IsGrown (left_by client_after_all (state_of header past) history)
follows header past [] may keeps grown = grown
follows header past (payload ∷ history) may keeps grown =
    let on = left_push client_after_all (new_client header.number header.cache) past payload in
    let next = entered_all (state_of header past) payload may.0.0 keeps.0 grown in
    subst (λ (c : ClientState). IsGrown (left_by client_after_all c history)) on (follows header (past ++ payload ∷ []) history may.1 keeps.1 (subst IsGrown (sym on) next))

pub followed : (header : Header) (history : List Payload) → IsHistory header history → KeepsKindsThroughout header history → IsGrown (state_of header history)
followed header history may keeps = follows header [] history may keeps (made header.number header.cache)
