-- How many blocks nodes take once an operation is applied.
use Rattle.std.proofs.Common.{◌≡◌, ◌≢◌, ℕ, ◌+◌, ◌-◌, ◌/◌, Bool, true, false, cond, List, Option, Some, None, option_map, is_some, refl, sym, ap, ◌∙◌}
use Rattle.std.specs.FinMap as map
use Rattle.std.specs.Option.{option_map_or}
use Rattle.std.proofs.lemmas.Bool.{both_ways}
use Rattle.std.proofs.lemmas.Cmp.{nat_list_cmp_total}
use Rattle.std.proofs.lemmas.Map.Lookups.{exact_bytes}
use Rattle.coda_fid.specs.declared.fid.Fid.{Fid}
use Rattle.coda_fid.specs.declared.fid.Sid.{Sid}
use Rattle.coda_fid.specs.Fid.{same_fid}
use Rattle.coda_fid.proofs.Fids.{fids_total, exact_fids, same_fid_is, same_fid_refl}
use Rattle.coda_tree.specs.declared.node.Node.{Node}
use Rattle.coda_tree.specs.Bindings.{Name, Bindings}
use Rattle.coda_tree.specs.Blocks.{blocks_of}
use Rattle.coda_tree.specs.Volume.{Nodes, bindings, bound, unbound, bind_in, unbind_in, changed, written, content_patch, attrs_patch}
use Rattle.coda_fid.specs.declared.op.Attrs.{Attrs}
use Rattle.coda_tree.proofs.Changes.{at_changed, off_changed}
use Rattle.coda_tree.proofs.Order.{get_here, get_else, gone_here, gone_else}
use Rattle.coda_cache.specs.State.{blocks_in}

-- ---- names

pub len_with : (m : Bindings) (name : Name) (f : Fid) (b : Bool) → b ≡ is_some (map.get m name) → map.len (map.insert m name f) ≡ cond b (map.len m) (map.len m + 1)
len_with m name f b is = map.len-insert nat_list_cmp_total m name f ∙ ap (λ b. cond b (map.len m) (map.len m + 1)) (sym is)

pub len_without : (m : Bindings) (name : Name) (b : Bool) → b ≡ is_some (map.get m name) → map.len (map.remove m name) ≡ cond b (map.len m - 1) (map.len m)
len_without m name b is = map.len-remove nat_list_cmp_total m name ∙ ap (λ b. cond b (map.len m - 1) (map.len m)) (sym is)

pub still_bound : (m : Bindings) (gone name : Name) → (gone ≡ name → ⊥) → is_some (map.get (map.remove m gone) name) ≡ is_some (map.get m name)
still_bound m gone name apart = ap (λ (o : Option Fid). is_some o) (gone_else nat_list_cmp_total exact_bytes m gone name (λ same. apart (sym same)))

pub unbound_then : (m : Bindings) (gone name : Name) → gone ≡ name → false ≡ is_some (map.get (map.remove m gone) name)
unbound_then m gone name same = sym (ap (λ x. is_some (map.get (map.remove m gone) x)) (sym same) ∙ ap (λ (o : Option Fid). is_some o) (gone_here nat_list_cmp_total m gone))

-- ---- the blocks of what may be there

abbrev pub blocks_there : Option Node → ℕ
blocks_there o = option_map_or (λ (node : Node). blocks_of node.kind) o 0

pub blocks_bound : (m : Nodes) (d : Fid) (name : Name) (f : Fid) (node : Node) → map.get m d ≡ Some node → blocks_in (bound m d name f) d ≡ 1 + map.len (map.insert (bindings node.kind) name f) / 32
blocks_bound m d name f node at = ap blocks_there (at_changed m d (λ node. bind_in node name f) ∙ ap (option_map (λ node. bind_in node name f)) at)

pub none_bound : (m : Nodes) (d : Fid) (name : Name) (f : Fid) → map.get m d ≡ None → blocks_in (bound m d name f) d ≡ 0
none_bound m d name f at = ap blocks_there (at_changed m d (λ node. bind_in node name f) ∙ ap (option_map (λ node. bind_in node name f)) at)

pub blocks_unbound : (m : Nodes) (d : Fid) (name : Name) (node : Node) → map.get m d ≡ Some node → blocks_in (unbound m d name) d ≡ 1 + map.len (map.remove (bindings node.kind) name) / 32
blocks_unbound m d name node at = ap blocks_there (at_changed m d (λ node. unbind_in node name) ∙ ap (option_map (λ node. unbind_in node name)) at)

pub blocks_rebound : (m : Nodes) (d : Fid) (from to : Name) (f : Fid) (node : Node) → map.get m d ≡ Some node → blocks_in (bound (unbound m d from) d to f) d ≡ 1 + map.len (map.insert (map.remove (bindings node.kind) from) to f) / 32
blocks_rebound m d from to f node at = blocks_bound (unbound m d from) d to f (unbind_in node from) (at_changed m d (λ node. unbind_in node from) ∙ ap (option_map (λ node. unbind_in node from)) at)

pub blocks_written : (m : Nodes) (f : Fid) (content : List ℕ) (time : ℕ) (sid : Sid) (node : Node) → map.get m f ≡ Some node → blocks_in (changed m f (written (content_patch content time) sid)) f ≡ blocks_of (written (content_patch content time) sid node).kind
blocks_written m f content time sid node at = ap blocks_there (at_changed m f (written (content_patch content time) sid) ∙ ap (option_map (written (content_patch content time) sid)) at)

pub blocks_set : (m : Nodes) (f : Fid) (attrs : Attrs) (sid : Sid) (q : Fid) → blocks_in (changed m f (written (attrs_patch attrs) sid)) q ≡ blocks_in m q
blocks_set m f attrs sid q = cases (same_fid q f) refl
  where
    same : (o : Option Node) → blocks_there (option_map (written (attrs_patch attrs) sid) o) ≡ blocks_there o
    same None = refl
    same (Some node) = refl

    cases : (b : Bool) → same_fid q f ≡ b → blocks_in (changed m f (written (attrs_patch attrs) sid)) q ≡ blocks_in m q
    cases true e = let at = same_fid_is q f e in ap (blocks_in (changed m f (written (attrs_patch attrs) sid))) at ∙ ap blocks_there (at_changed m f (written (attrs_patch attrs) sid)) ∙ same (map.get m f) ∙ ap (blocks_in m) (sym at)
    cases false e = ap blocks_there (off_changed m f (written (attrs_patch attrs) sid) q (λ at. both_ways _ e (ap (λ x. same_fid x f) at ∙ same_fid_refl f)))

-- ---- which node it is

apart : (q f : Fid) → same_fid q f ≡ false → q ≢ f
apart q f e at = both_ways _ e (ap (λ x. same_fid x f) at ∙ same_fid_refl f)

pub at_fid : (m : Nodes) (q f : Fid) → same_fid q f ≡ true → blocks_in m q ≡ blocks_in m f
at_fid m q f e = ap (blocks_in m) (same_fid_is q f e)

pub put_blocks : (m : Nodes) (f : Fid) (node : Node) (q : Fid) → same_fid q f ≡ true → blocks_in (map.insert m f node) q ≡ blocks_of node.kind
put_blocks m f node q e = at_fid (map.insert m f node) q f e ∙ ap blocks_there (get_here fids_total m f node)

pub put_off : (m : Nodes) (f : Fid) (node : Node) (q : Fid) → same_fid q f ≡ false → blocks_in (map.insert m f node) q ≡ blocks_in m q
put_off m f node q e = ap blocks_there (get_else fids_total exact_fids m f node q (apart q f e))

pub out_blocks : (m : Nodes) (f q : Fid) → same_fid q f ≡ true → blocks_in (map.remove m f) q ≡ 0
out_blocks m f q e = at_fid (map.remove m f) q f e ∙ ap blocks_there (gone_here fids_total m f)

pub out_off : (m : Nodes) (f q : Fid) → same_fid q f ≡ false → map.get (map.remove m f) q ≡ map.get m q
out_off m f q e = gone_else fids_total exact_fids m f q (apart q f e)

pub bound_off : (m : Nodes) (d : Fid) (name : Name) (f q : Fid) → same_fid q d ≡ false → map.get (bound m d name f) q ≡ map.get m q
bound_off m d name f q e = off_changed m d (λ node. bind_in node name f) q (apart q d e)

pub unbound_off : (m : Nodes) (d : Fid) (name : Name) (q : Fid) → same_fid q d ≡ false → map.get (unbound m d name) q ≡ map.get m q
unbound_off m d name q e = off_changed m d (λ node. unbind_in node name) q (apart q d e)

-- a change of one node depends on that node alone
pub bound_same : (m n : Nodes) (d : Fid) (name : Name) (f q : Fid) → map.get m q ≡ map.get n q → map.get (bound m d name f) q ≡ map.get (bound n d name f) q
bound_same m n d name f q same = cases (same_fid q d) refl
  where
    cases : (b : Bool) → same_fid q d ≡ b → map.get (bound m d name f) q ≡ map.get (bound n d name f) q
    cases true e =
        let at = same_fid_is q d e in
        ap (map.get (bound m d name f)) at ∙ at_changed m d (λ node. bind_in node name f) ∙ ap (option_map (λ node. bind_in node name f)) (ap (map.get m) (sym at) ∙ same ∙ ap (map.get n) at)
        ∙ sym (ap (map.get (bound n d name f)) at ∙ at_changed n d (λ node. bind_in node name f))
    cases false e = bound_off m d name f q e ∙ same ∙ sym (bound_off n d name f q e)

pub unbound_same : (m n : Nodes) (d : Fid) (name : Name) (q : Fid) → map.get m q ≡ map.get n q → map.get (unbound m d name) q ≡ map.get (unbound n d name) q
unbound_same m n d name q same = cases (same_fid q d) refl
  where
    cases : (b : Bool) → same_fid q d ≡ b → map.get (unbound m d name) q ≡ map.get (unbound n d name) q
    cases true e =
        let at = same_fid_is q d e in
        ap (map.get (unbound m d name)) at ∙ at_changed m d (λ node. unbind_in node name) ∙ ap (option_map (λ node. unbind_in node name)) (ap (map.get m) (sym at) ∙ same ∙ ap (map.get n) at)
        ∙ sym (ap (map.get (unbound n d name)) at ∙ at_changed n d (λ node. unbind_in node name))
    cases false e = unbound_off m d name q e ∙ same ∙ sym (unbound_off n d name q e)

-- and where there is none there is none then
pub still_unbound : (m : Nodes) (from : Fid) (name : Name) (to : Fid) (new : Name) (f q : Fid) → map.get m q ≡ None → map.get (bound (unbound m from name) to new f) q ≡ None
still_unbound m from name to new f q none = changed_none (unbound m from name) to (λ node. bind_in node new f) (changed_none m from (λ node. unbind_in node name) none)
  where
    changed_none : (m : Nodes) (d : Fid) (change : Node → Node) → map.get m q ≡ None → map.get (changed m d change) q ≡ None
    changed_none m d change none = cases (same_fid q d) refl
      where
        cases : (b : Bool) → same_fid q d ≡ b → map.get (changed m d change) q ≡ None
        cases true e = let at = same_fid_is q d e in ap (map.get (changed m d change)) at ∙ at_changed m d change ∙ ap (option_map change) (ap (map.get m) (sym at) ∙ none)
        cases false e = off_changed m d change q (apart q d e) ∙ none
