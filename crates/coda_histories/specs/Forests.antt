-- What a client leaves cached is a forest, whatever entries its history has.
use Rattle.std.specs.Prelude.{◌≡◌, ℕ, ◌<◌, true, false, List, [], ◌∷◌, Some}
use Rattle.std.specs.FinMap as map
use Rattle.coda_fid.specs.declared.fid.Fid.{Fid}
use Rattle.coda_fid.specs.declared.op.Op.{Op as Operation}
use Rattle.coda_fid.specs.declared.op.Op.TheVariants.{Rename}
use Rattle.coda_journal.specs.declared.header.Header.{Header}
use Rattle.coda_plain.specs.Histories.{DoFollow}
use Rattle.coda_record.specs.declared.entry.ClientEntry.{ClientEntry}
use Rattle.coda_record.specs.declared.entry.ClientEntry.TheVariants.{Op, Fetched}
use Rattle.coda_tree.specs.Volume.{has, IsDir, IsDirAt}
use Rattle.coda_venus.specs.Held.{Held, is_below}
use Rattle.coda_venus.specs.History.{Payload, MayEnter, MayEnterAll, IsHistory, state_of}
use Rattle.coda_venus.specs.State.{ClientState, new_client, client_after, client_after_all}

-- What is cached is a forest: each object with a parent is cached, and so is its parent, which stands less deep, so that each way up ends.
pub record IsForest (held : Held) : Type 0 where
  pub kids : (f p : Fid) → map.get held.parents f ≡ Some p → has held.nodes f ≡ true
  pub parents : (f p : Fid) → map.get held.parents f ≡ Some p → has held.nodes p ≡ true
  -- how many directories are above an object
  pub depth : Fid → ℕ
  pub deeper : (f p : Fid) → map.get held.parents f ≡ Some p → depth p < depth f

-- each parent is a directory that is cached
abbrev pub ParentsAreDirs : Held → Type 0
ParentsAreDirs held = (f p : Fid) → map.get held.parents f ≡ Some p → IsDirAt held.nodes p

-- ---- which objects stay directories

-- a fetch of a directory that is cached gives a directory
abbrev pub KeepsKinds : ClientState → ClientEntry → Type 0
KeepsKinds c (Fetched fid parent node) = IsDirAt c.held.nodes fid → IsDir node.kind
KeepsKinds c entry = Unit {0}

-- each fetch of a payload, by what the entries before it left
abbrev pub KeepsKindsIn : ClientState → Payload → Type 0
KeepsKindsIn c [] = Unit {0}
KeepsKindsIn c (entry ∷ entries) = KeepsKinds c entry × KeepsKindsIn (client_after c entry) entries

-- each fetch of a history
abbrev pub KeepsKindsThroughout : Header → List Payload → Type 0
KeepsKindsThroughout header history = DoFollow (λ past payload. KeepsKindsIn (state_of header past) payload) [] history

-- the operation is no rename onto another object
abbrev pub ReplacesNothing : Operation → Type 0
ReplacesNothing (Rename from_dir from to_dir to fid (Some over)) = ⊥
ReplacesNothing op = Unit {0}

-- the entry is no such operation of the client
abbrev pub IsNoReplacement : ClientEntry → Type 0
IsNoReplacement (Op volume rec) = ReplacesNothing rec.op
IsNoReplacement entry = Unit {0}

-- ---- the laws

-- What a client's history leaves cached is a forest, and each parent a directory, where no fetch gives a file or a link in place of a
-- directory that is cached.
abbrev pub CachesAreForestsInHistories : Type 0
CachesAreForestsInHistories = (header : Header) (history : List Payload) → IsHistory header history → KeepsKindsThroughout header history → IsForest (state_of header history).held × ParentsAreDirs (state_of header history).held

-- So it is with each entry by itself, of a client with any cache that is such a forest.
abbrev pub EntriesKeepForests : Type 0
EntriesKeepForests = (c : ClientState) (entry : ClientEntry) → MayEnter c entry → KeepsKinds c entry → IsForest c.held × ParentsAreDirs c.held → IsForest (client_after c entry).held × ParentsAreDirs (client_after c entry).held

-- Of what a fetch gives, and of parents, only a rename onto another object asks anything: its new parent could be below what it replaces.
abbrev pub OnlyReplacingAsksDirectories : Type 0
OnlyReplacingAsksDirectories = (c : ClientState) (entry : ClientEntry) → MayEnter c entry → IsNoReplacement entry → IsForest c.held → IsForest (client_after c entry).held

-- In a forest no parent is below its child.
abbrev pub NoParentIsBelowItsChild : Type 0
NoParentIsBelowItsChild = (held : Held) → IsForest held → (f p : Fid) → map.get held.parents f ≡ Some p → is_below held.parents p f ≡ false

-- Where a file is fetched in place of a directory that is cached, a rename may leave an object whose parent isn't cached: entries that
-- may follow one another, from a client that was just made, leave no forest.
abbrev pub FilesInPlaceOfDirectoriesLoseParents : Type 0
FilesInPlaceOfDirectoriesLoseParents = (number : ℕ) × (blocks : ℕ) × (entries : Payload) × MayEnterAll (new_client number blocks) entries × (IsForest (client_after_all (new_client number blocks) entries).held → ⊥)
