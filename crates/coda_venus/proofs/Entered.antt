-- A client of which what it holds changed, and a log.
use Rattle.std.proofs.Common.{◌≡◌, ◌<◌, ℕ, Option, Some, None, refl, sym, ap, ◌∙◌, subst}
use Rattle.std.specs.Prelude.{Result, Ok, Err, OnOk, OnErr}
use Rattle.std.specs.FinMap as map
use Rattle.coda_fid.specs.Fid.{fid_cmp}
use Rattle.coda_fid.specs.declared.op.Record.{Record}
use Rattle.coda_tree.specs.declared.node.Node.{Node}
use Rattle.coda_tree.specs.Volume.{Nodes, child_of}
use Rattle.coda_cache.specs.Keeping.{Agree}
use Rattle.coda_cache.specs.State.{CacheState}
use Rattle.coda_cache.specs.Steps.{mutated}
use Rattle.coda_plain.specs.Deeds.{Operated}
use Rattle.coda_record.specs.Form.{one}
use Rattle.coda_record.specs.declared.entry.ClientEntry.TheVariants.{Op as OpEntry}
use Rattle.coda_spelling.specs.Spelled.{IsSpelled, AreSpelled}
use Rattle.coda_spelling.proofs.SpelledParts.{below}
use Rattle.coda_venus.specs.Code.{IsClient, held_in}
use Rattle.coda_venus.specs.Held.{Held, held_after_operation}
use Rattle.coda_venus.specs.Operating.{MayBegin}
use Rattle.coda_venus.specs.State.{ClientState, after_deed, client_after}
use Rattle.coda_cache.specs.Operating.{finished, undone, HasBegun}
use Rattle.coda_cache.specs.declared.begun.Begun.{Begun}
use Rattle.coda_cache.specs.declared.begun.Begun.TheVariants.{Made, Content, Attributes, Leaving, Moving, Replacing}
use Rattle.coda_venus.specs.declared.client.Client.{Client}
use Rattle.coda_venus.proofs.Cached.{mutated_held, mutated_size}
use Rattle.coda_venus.proofs.SpelledHeld.{operation_spelled}

pub on_err : {A E : Type 0} (r : Result A E) (P : Type 0) → P → OnErr r P
on_err (Ok x) P p = tt
on_err (Err e) P p = p

pub kept_ok : {A E : Type 0} (r : Result A E) (P Q : Type 0) → OnOk r P → (P → Q) → OnOk r Q
kept_ok (Ok x) P Q p to = to p
kept_ok (Err e) P Q p to = tt

-- with another cache, the logs being the same
pub with_cache : (c : ClientState) (old : Client) (cache : CacheState) (held : Held) → IsClient c old → cache.size ≡ old.cache.size → held ≡ held_in cache → IsClient (record c { held = held }) (record old { cache = cache })
with_cache c old cache held is size here = record { number = is.number; blocks = is.blocks ∙ sym size; held = here; logs = is.logs }

undone_size : (k : CacheState) (begun : Begun) → (undone k begun).size ≡ k.size
undone_size k (Made dir name fid) = refl
undone_size k (Content fid content mtime sid) = refl
undone_size k (Attributes fid attrs sid) = refl
undone_size k (Leaving dir name fid) = refl
undone_size k (Moving from_dir from to_dir to fid) = refl
undone_size k (Replacing over from_dir from to_dir to fid) = refl

module _ (c : ClientState) (volume : ℕ) (rec : Record) (made pushed : Client) (began ended : CacheState) (begun : Begun) (is : IsClient c made) (agree : Agree made.cache.nodes made.cache.holds made.cache.recency)
    (may : MayBegin made.cache.nodes rec.op) (has : HasBegun made.cache began made.number rec begun) (same : pushed.cache ≡ began) where
  size : began.size ≡ made.cache.size
  size = sym (undone_size began begun) ∙ ap (λ (k : CacheState). k.size) has.undoes

  -- the client with what is held in between
  abbrev pub between : ClientState
  between = record c { held = held_in began }

  pub is_between : IsClient between (record made { cache = began })
  is_between = with_cache c made began (held_in began) is size refl

  -- once the operation is behind the log, and the rest is done
  pub entered : IsClient (after_deed between volume (Operated rec)) pushed → ended ≡ finished pushed.cache begun → IsClient (client_after c (OpEntry volume rec)) (record pushed { cache = ended })
  entered at done =
      let last : ended ≡ mutated made.cache made.number rec = done ∙ ap (λ (k : CacheState). finished k begun) same ∙ has.finishes in
      let now : held_after_operation c.held c.number rec ≡ held_in ended = (λ i. held_after_operation (is.held i) (is.number i) rec) ∙ sym (mutated_held made.cache made.number rec agree may) ∙ ap held_in (sym last) in
      with_cache (after_deed between volume (Operated rec)) pushed ended (held_after_operation c.held c.number rec) at
      (ap (λ (k : CacheState). k.size) last ∙ mutated_size made.cache made.number rec ∙ sym size ∙ ap (λ (k : CacheState). k.size) (sym same)) now

  pub nodes_entered : ended ≡ finished pushed.cache begun → ended.nodes ≡ (held_after_operation (held_in made.cache) made.number rec).nodes
  nodes_entered done = ap (λ (k : CacheState). k.nodes) (done ∙ ap (λ (k : CacheState). finished k begun) same ∙ has.finishes) ∙ ap (λ (h : Held). h.nodes) (mutated_held made.cache made.number rec agree may)

  -- where it isn't, and the first part is undone
  pub cache_returned : ended ≡ undone pushed.cache begun → ended ≡ made.cache
  cache_returned back = back ∙ ap (λ (k : CacheState). undone k begun) same ∙ has.undoes

  pub returned : IsClient between pushed → ended ≡ undone pushed.cache begun → IsClient c (record pushed { cache = ended })
  returned at back =
      let last = cache_returned back in
      with_cache between pushed ended c.held at (ap (λ (k : CacheState). k.size) last ∙ sym size ∙ ap (λ (k : CacheState). k.size) (sym same)) (is.held ∙ ap held_in (sym last))

-- what a client holds can still be spelled
pub spelled_after : {A E : Type 0} (r : Result A E) (old : Held) (new : Nodes) (client : ℕ) (rec : Record) → OnOk r (new ≡ (held_after_operation old client rec).nodes) → OnErr r (new ≡ old.nodes) → AreSpelled old.nodes → client < 256 → IsSpelled rec → AreSpelled new
spelled_after (Ok x) old new client rec ok err spelled few is = subst AreSpelled (sym ok) (operation_spelled old client rec spelled (below one client few) is)
spelled_after (Err e) old new client rec ok err spelled few is = subst AreSpelled (sym err) spelled

-- where nothing is held, nothing has to be spelled
pub nothing_spelled : AreSpelled map.empty
nothing_spelled = record {
  versions = λ fid node h. (let no : None ≡ Some node = sym (map.get-empty fid_cmp fid) ∙ h in cc);
  bound = λ dir fid name h. (let no : None ≡ Some fid = sym (ap (λ (o : Option Node). child_of o name) (map.get-empty fid_cmp dir)) ∙ h in cc);
}
