-- What holds of a plain actor over crashes and recoveries.
use Rattle.std.specs.Prelude.{◌≡◌, ◌≢◌, ◌⊎◌, ℕ, List, [], ◌∷◌, ◌++◌, Some, None}
use Rattle.coda_journal.specs.Image.{ReadsAs}
use Rattle.coda_journal.specs.declared.header.Header.{Header}
use Rattle.coda_actors.specs.Form.{Form, payloads_of}
use Rattle.coda_actors.specs.Plain.{PlainActor, Down, Up, Deed, Opens, Adds, Crashes, Recovers, Step, Runs}
use Rattle.coda_actors.specs.declared.slot.Mounting.TheVariants.{Entries, Foreign}

-- An entry that was acknowledged stands behind those before it in every history that is found later, whatever happens between.
abbrev pub EntriesStay : {A D : Type 0} → Form A D → Type 0
EntriesStay form =
    (old mid new : PlainActor form.Entry) (entry : form.Entry) (deeds : List (Deed form.Entry)) → Step form old (Adds entry) mid → Runs form mid deeds new
    → (rest : List form.Entry) × (new.disk.history ≡ old.disk.history ++ entry ∷ rest)

-- recoveries that all fail
abbrev pub AreRefused : {Entry : Type 0} → List (Deed Entry) → Type 0
AreRefused [] = Unit {0}
AreRefused (Recovers (Entries count) ∷ deeds) = ⊥
AreRefused (Recovers mounting ∷ deeds) = AreRefused deeds
AreRefused (deed ∷ deeds) = ⊥

-- The first recovery behind a crash that succeeds finds the history from before the crash, or that one with the one entry whose append failed, and the image
-- that the bay answered at the crash reads as what is found.
abbrev pub CrashesAreRecovered : {A D : Type 0} → Form A D → Type 0
CrashesAreRecovered form =
    (old mid late new : PlainActor form.Entry) (image : List ℕ) (tried : List (Deed form.Entry)) (count : ℕ)
    → Step form old (Crashes image) mid → AreRefused tried → Runs form mid tried late → Step form late (Recovers (Entries count)) new
    → ((new.disk.history ≡ old.disk.history) ⊎ ((entry : form.Entry) × (old.disk.failed ≡ Some entry) × (new.disk.history ≡ old.disk.history ++ entry ∷ [])))
    × ((header : Header) × (new.life ≡ Up header) × ReadsAs header (payloads_of form new.disk.history) image)

-- An actor that is up has no entry whose append failed, and no crash behind it that wasn't recovered; its disk has the header that it asks for.
abbrev pub IsAtRest : {Entry : Type 0} → PlainActor Entry → Type 0
IsAtRest plain = (header : Header) → plain.life ≡ Up header → (plain.disk.failed ≡ None) × (plain.disk.header ≡ Some header) × (plain.left ≡ None)

abbrev pub ActorsStayAtRest : {A D : Type 0} → Form A D → Type 0
ActorsStayAtRest form = (old new : PlainActor form.Entry) (deeds : List (Deed form.Entry)) → IsAtRest old → Runs form old deeds new → IsAtRest new

-- A disk is never foreign under the header that it was last given. Where it is, it is left as it was.
abbrev pub IsAnothers : {Entry : Type 0} → Header → PlainActor Entry → PlainActor Entry → Type 0
IsAnothers header old new = (old.disk.header ≢ Some header) × (new.disk ≡ old.disk)

abbrev pub OwnHeadersAreServed : {A D : Type 0} → Form A D → Type 0
OwnHeadersAreServed form =
    (old new : PlainActor form.Entry) (header : Header) (at : ℕ)
    → (Step form old (Opens header (Foreign at)) new → IsAnothers header old new) × (new.life ≡ Down header → Step form old (Recovers (Foreign at)) new → IsAnothers header old new)
