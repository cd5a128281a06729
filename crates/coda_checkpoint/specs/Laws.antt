-- A law of images that a truncation leaves.
use Rattle.std.specs.Prelude.{◌≡◌, ◌⊎◌, ℕ, List, [], ◌∷◌}
use Rattle.coda_journal.specs.Header.{IsHeader}
use Rattle.coda_journal.specs.Image.{ReadsAs, IsForeign}
use Rattle.coda_journal.specs.declared.header.Header.{Header}
use Rattle.coda_checkpoint.specs.Truncating.{IsOldOrSnapshot}

-- Whatever list such an image stands for is the old one or the snapshot alone, and it isn't foreign.
abbrev pub TruncationsAreWhole : Type 0
TruncationsAreWhole = (header : Header) (image : List ℕ) (payloads found : List (List ℕ)) (snapshot : List ℕ)
    → IsHeader header → IsOldOrSnapshot header payloads snapshot image
    → ((at : ℕ) → ¬ IsForeign header image at)
    × (ReadsAs header found image → (found ≡ payloads) ⊎ (found ≡ snapshot ∷ []))
