-- What each step makes of a client's promise on an object, and of word of it in the client's outbox.
use Rattle.std.specs.Prelude.{◌≡◌, ℕ, Bool, not, ◌&&◌, ◌||◌, ◌==◌, List}
use Rattle.coda_fid.specs.Fid.{same_fid}
use Rattle.coda_fid.specs.declared.fid.Fid.{Fid}
use Rattle.coda_callback.specs.Callbacks.{Callbacks, is_promised, is_waiting, names, promised, broken_by, collected, dropped}

-- whether these are one client and one object
abbrev pub same : ℕ → Fid → ℕ → Fid → Bool
same client fid other that = (client == other) && same_fid fid that

-- A client that fetched an object has a promise on it and no word of it. Where objects changed, nobody has a promise on one
-- of them, and whoever had one has word of it. A client whose outbox was collected has no word, and keeps its promises. One
-- that was dropped has neither. All others keep what they have.
pub record CallbacksMove : Type 0 where
  pub promised_by_a_fetch : (s : Callbacks) (client : ℕ) (fid : Fid) (other : ℕ) (that : Fid) → is_promised (promised s client fid) other that ≡ (same other that client fid || is_promised s other that)
  pub waiting_after_a_fetch : (s : Callbacks) (client : ℕ) (fid : Fid) (other : ℕ) (that : Fid) → is_waiting (promised s client fid) other that ≡ (not (same other that client fid) && is_waiting s other that)
  pub promised_after_changes : (s : Callbacks) (fids : List Fid) (other : ℕ) (that : Fid) → is_promised (broken_by s fids) other that ≡ (is_promised s other that && not (names fids that))
  pub waiting_after_changes : (s : Callbacks) (fids : List Fid) (other : ℕ) (that : Fid) → is_waiting (broken_by s fids) other that ≡ (is_waiting s other that || (is_promised s other that && names fids that))
  pub promised_after_collecting : (s : Callbacks) (client other : ℕ) (that : Fid) → is_promised (collected s client) other that ≡ is_promised s other that
  pub waiting_after_collecting : (s : Callbacks) (client other : ℕ) (that : Fid) → is_waiting (collected s client) other that ≡ (is_waiting s other that && not (other == client))
  pub promised_after_dropping : (s : Callbacks) (client other : ℕ) (that : Fid) → is_promised (dropped s client) other that ≡ (is_promised s other that && not (other == client))
  pub waiting_after_dropping : (s : Callbacks) (client other : ℕ) (that : Fid) → is_waiting (dropped s client) other that ≡ (is_waiting s other that && not (other == client))
