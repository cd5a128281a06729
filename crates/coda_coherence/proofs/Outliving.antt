-- A copy that isn't valid stays so until it is fetched again.
use Rattle.std.proofs.Common.{◌≡◌, ℕ, Bool, true, false, cond, ◌&&◌, ◌==◌, List, [], ◌∷◌, Option, Some, None, refl}
use Rattle.std.proofs.Common.{ap, sym, ◌∙◌}
use Rattle.std.specs.Option.{option_and_then}
use Rattle.std.proofs.lemmas.Bool.{and_parts, and_from, eqb-true, eq-eqb}
use Rattle.coda_fid.specs.Fid.{same_fid}
use Rattle.coda_fid.specs.declared.fid.Fid.{Fid}
use Rattle.coda_fid.proofs.Fids.{same_fid_is}
use Rattle.coda_callback.specs.Callbacks.{names}
use Rattle.coda_plain.specs.Decisions.{ReplicaEntry}
use Rattle.coda_coherence.specs.Cell.{Copy, Break, CachingCell, CacheEvent, Fetched, Refused, Acted, Decided, Posted}
use Rattle.coda_coherence.specs.Cell.{Refreshed, OtherPosted, Delivered, Lost, LinkUp, LinkDown, ClientGone}
use Rattle.coda_coherence.specs.Cell.{ReplicaGone, unless_gone, copies_left, invalidates, break_delivered, break_lost}
use Rattle.coda_coherence.specs.Cell.{copy_now, cell_after, IsCacheRun}
use Rattle.coda_coherence.specs.Fact.{IsFetchOf, NoneFetches, NoCopyOutlivesItsBreak}

none_left : (valid : ℕ → Fid → Option Copy) (gone : ℕ → Fid → Copy → Bool) (c : ℕ) (f : Fid) → valid c f ≡ None
    → copies_left valid gone c f ≡ None
none_left valid gone c f none = ap (option_and_then (λ copy. unless_gone (gone c f copy) copy)) none

all_gone : (o : Option Copy) (gone : Copy → Bool) → ((copy : Copy) → gone copy ≡ true)
    → option_and_then (λ copy. unless_gone (gone copy) copy) o ≡ None
all_gone None gone goes = refl
all_gone (Some copy) gone goes = ap (λ b. unless_gone b copy) (goes copy)

module _ (changes : List ReplicaEntry → ReplicaEntry → Fid → Bool) where
  arrived_none : (old : CachingCell) (number : ℕ) (o : Option Break) (c : ℕ) (f : Fid) → old.copies c f ≡ None
      → (break_delivered old number o).copies c f ≡ None
  arrived_none old number None c f none = none
  arrived_none old number (Some letter) c f none =
      none_left old.copies (λ c f copy. (c == letter.client) && names letter.fids f) c f none

  gone_none : (old : CachingCell) (number : ℕ) (o : Option Break) (c : ℕ) (f : Fid) → old.copies c f ≡ None
      → (break_lost old number o).copies c f ≡ None
  gone_none old number None c f none = none
  gone_none old number (Some letter) c f none =
      none_left old.copies (λ c f copy. (c == letter.client) && (copy.server == letter.server)) c f none

  stays_none : (old : CachingCell) (event : CacheEvent) (c : ℕ) (f : Fid) → (IsFetchOf c f event → ⊥)
      → old.copies c f ≡ None → (cell_after changes old event).copies c f ≡ None
  stays_none old (Fetched client server fid parent node) c f other none =
      elim ((c == client) && same_fid f fid) as
      (λ b. ((c == client) && same_fid f fid) ≡ b → cond b (Some (copy_now old fid server)) (old.copies c f) ≡ None) [
        | true ↦ λ e. let p = and_parts (c == client) (same_fid f fid) e in absurd (other (sym (eqb-true c client p.0), sym (same_fid_is f fid p.1)))
        | false ↦ λ _. none
      ] refl
  stays_none old (Refused client server fid) c f other none = none
  stays_none old (Acted client e) c f other none =
      none_left old.copies (λ c f copy. (c == client) && invalidates (old.clients client) e f) c f none
  stays_none old (Decided server volume e) c f other none = none
  stays_none old (Posted server client volume fids) c f other none = none
  stays_none old (Refreshed server client volume fids) c f other none =
      none_left old.copies (λ c f copy. (c == client) && names fids f) c f none
  stays_none old OtherPosted c f other none = none
  stays_none old (Delivered number) c f other none = arrived_none old number (old.breaks number) c f none
  stays_none old (Lost number) c f other none = gone_none old number (old.breaks number) c f none
  stays_none old (LinkUp client server) c f other none = none
  stays_none old (LinkDown client server) c f other none =
      none_left old.copies (λ c f copy. (c == client) && (copy.server == server)) c f none
  stays_none old (ClientGone client state) c f other none = none_left old.copies (λ c f copy. c == client) c f none
  stays_none old (ReplicaGone server volume found) c f other none =
      none_left old.copies (λ c f copy. (copy.server == server) && (f.volume == volume)) c f none

  none_through : (old : CachingCell) (events : List CacheEvent) (new : CachingCell) (c : ℕ) (f : Fid)
      → IsCacheRun changes old events new → NoneFetches c f events → old.copies c f ≡ None → new.copies c f ≡ None
  none_through old [] new c f is others none = ap (λ (cell : CachingCell). cell.copies c f) is ∙ none
  none_through old (event ∷ events) new c f run others none =
      none_through (cell_after changes old event) events new c f run.1 others.1
      (stays_none old event c f others.0 none)

pub no_copy_outlives : NoCopyOutlivesItsBreak
no_copy_outlives changes old number letter fid events cell there named run others =
    none_through changes (cell_after changes old (Delivered number)) events cell letter.client fid run.1 others
    (ap (λ o. (break_delivered old number o).copies letter.client fid) there
    ∙ all_gone (old.copies letter.client fid) (λ copy. (letter.client == letter.client) && names letter.fids fid)
    (λ copy. and_from _ _ (eq-eqb letter.client letter.client refl) named))
