-- What was fetched may follow, and can be spelled.
use Rattle.std.proofs.Common.{◌≡◌, true, false, List, [], ◌∷◌, Option, Some, None, is_some, Result, Ok, Err, refl, sym, ap, ◌∙◌, subst, inl, inr}
use Rattle.std.specs.Prelude.{IsSome, OnOk, OnErr}
use Rattle.std.specs.FinMap as map
use Rattle.coda_fid.specs.declared.fid.Fid.{Fid}
use Rattle.coda_tree.specs.declared.node.Node.{Node}
use Rattle.coda_tree.specs.Volume.{Nodes, parent_of}
use Rattle.coda_journal.specs.declared.header.Header.{Header}
use Rattle.coda_record.specs.Entries.{client_entry, client_payload, node}
use Rattle.coda_record.specs.Form.{four}
use Rattle.coda_record.specs.Parts.{optional}
use Rattle.coda_record.specs.Spelling.{HasSpelling}
use Rattle.coda_record.specs.Table as table
use Rattle.coda_record.specs.declared.entry.ClientEntry.TheVariants.{Fetched}
use Rattle.coda_spelling.specs.Spelled.{AreSpelled}
use Rattle.coda_spelling.proofs.SpelledParts.{both_true}
use Rattle.coda_venus.specs.Code.{IsClient, held_of}
use Rattle.coda_venus.specs.Held.{Held}
use Rattle.coda_venus.specs.History.{Payload, IsDirty, IsParent, MayFollow, state_of}
use Rattle.coda_venus.specs.Keeping.{IsMissed, parent_for_of, parent_for}
use Rattle.coda_venus.specs.State.{ClientState}
use Rattle.coda_venus.specs.declared.client.Client.{Client}
use Rattle.coda_venus.proofs.SpelledStates.{node_spelled, after_put}

fetched_spelled : (fid : Fid) (parent : Option Fid) (n : Node) → HasSpelling table.fid fid → HasSpelling (optional table.fid) parent → HasSpelling (node four) n → HasSpelling (client_payload four) (Fetched fid parent n ∷ [])
unfolding client_payload client_entry
fetched_spelled fid parent n f p is = both_true _ _ refl (both_true _ _ (both_true _ _ refl (both_true _ _ f (both_true _ _ p (both_true _ _ is refl)))) refl)

-- an object that isn't held isn't both cached and mentioned
pub not_cached : (c : ClientState) (fid : Fid) → map.get c.held.nodes fid ≡ None → ¬ (IsSome (map.get c.held.nodes fid) × IsDirty c fid)
not_cached c fid absent both = (let no : false ≡ true = ap is_some (sym absent) ∙ both.0 in cc)

pub may_fetch : (header : Header) (history : List Payload) (code : Client) (fid : Fid) (parent : Option Fid) (n : Node) → IsClient (state_of header history) code → map.get code.cache.nodes fid ≡ None → IsParent (held_of code) fid parent
    → HasSpelling table.fid fid → HasSpelling (optional table.fid) parent → HasSpelling (node four) n → MayFollow header history (Fetched fid parent n ∷ [])
may_fetch header history code fid parent n is absent place f p fits =
    let s = state_of header history in
    (((not_cached s fid (ap (λ (h : Held). map.get h.nodes fid) is.held ∙ absent), subst (λ (h : Held). IsParent h fid parent) (sym is.held) place), tt), fetched_spelled fid parent n f p fits)

-- ---- its parent

-- the parent that an object gets is one that it may have
pub parent_fits : (held : Held) (fid : Fid) → IsMissed held.nodes fid → IsParent held fid (parent_for held fid)
parent_fits held fid missed = by (map.get held.parents fid) refl
  where
    bound : (o : Option Fid) → map.get held.parents fid ≡ None → parent_of held.nodes fid ≡ o → IsParent held fid o
    bound None own at = (
      own,
      elim missed.place [
        | inl root ↦ inr root
        | inr some ↦ (let no : false ≡ true = ap is_some (sym at) ∙ some in cc)
      ],
    )
    bound (Some dir) own at = inr (missed.absent, inr at)

    by : (o : Option Fid) → map.get held.parents fid ≡ o → IsParent held fid (parent_for_of o held.nodes fid)
    by None own = bound (parent_of held.nodes fid) own refl
    by (Some dir) own = inl own

-- what is held can still be spelled
pub spelled_with : {A E : Type 0} (r : Result A E) (old new : Nodes) (fid : Fid) (n : Node) → OnOk r (new ≡ map.insert old fid n) → OnErr r (new ≡ old) → AreSpelled old → HasSpelling (node four) n → AreSpelled new
spelled_with (Ok x) old new fid n ok err are is = subst AreSpelled (sym ok) (after_put old fid n are (node_spelled n is))
spelled_with (Err e) old new fid n ok err are is = subst AreSpelled (sym err) are
