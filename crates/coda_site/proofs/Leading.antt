-- A line leads from what a site shows to what it shows then.
use Rattle.std.proofs.Common.{◌≡◌, ℕ, Bool, true, List, [], ◌∷◌, Result, Ok, Err, sym, ap, subst}
use Rattle.std.specs.Prelude.{IfOk}
use Rattle.coda_disk.specs.Told.{Told}
use Rattle.coda_script.specs.Ranges.{InRange}
use Rattle.coda_script.specs.declared.line.Line.{Line}
use Rattle.coda_script.specs.declared.reply.Reply.{Reply}
use Rattle.coda_cell.specs.Steps.{alone, is_alone}
use Rattle.coda_shelves.specs.Cells.{Cell}
use Rattle.coda_shelves.specs.Lines.{is_built, Happens}
use Rattle.coda_shelves.proofs.Keeping.{shelves_are_kept}
use Rattle.coda_shelves.proofs.Placed.{lines_keep_places}
use Rattle.coda_site.specs.Shelves.{Shows, Leads}
use Rattle.coda_site.specs.Steps.{Becomes}
use Rattle.coda_site.specs.declared.site.Site.{Site}

-- a line by another name
pub becomes_named : {D Fault : Type 0} (told : D → Told) (out : ℕ → Bool) (has : ℕ → Told) (cell : Cell) (site : Site D) (said named : Line) (result : Result Reply Fault) (answers0 answers1 : List (List ℕ)) → said ≡ named
    → IfOk result (λ reply. Becomes told out has (Happens cell named) reply answers0 answers1 site) → IfOk result (λ reply. Becomes told out has (Happens cell said) reply answers0 answers1 site)
becomes_named told out has cell site said named result answers0 answers1 is b = subst (λ (l : Line). IfOk result (λ reply. Becomes told out has (Happens cell l) reply answers0 answers1 site)) (sym is) b

-- each line keeps a cell, and its replicas at their places
pub leads : {D Fault : Type 0} (told : D → Told) (out out1 : ℕ → Bool) (has has1 : ℕ → Told) (cell : Cell) (old new : Site D) (said : Line) (result : Result Reply Fault) (answers0 answers1 : List (List ℕ)) → Shows told out has cell old → InRange said → is_built said ≡ true
    → IfOk result (λ reply. Becomes told out1 has1 (Happens cell said) reply answers0 answers1 new) → IfOk result (λ reply. Leads told out1 has1 (Happens cell said) reply answers0 answers1 new)
leads told out out1 has has1 cell old new said (Ok reply) answers0 answers1 shows range built b = record {
  outside = b.outside;
  left = b.left;
  happens = b.happens;
  answered = b.answered;
  shows = record {
    kept = shelves_are_kept.lines cell b.left said reply b.outside shows.kept range b.happens;
    placed = lines_keep_places.lines cell b.left said reply b.outside shows.kept shows.placed range built b.happens;
    stands = b.stands;
  };
}
leads told out out1 has has1 cell old new said (Err why) answers0 answers1 shows range built b = tt

-- the same of a line by another name
pub leads_as : {D Fault : Type 0} (told : D → Told) (out out1 : ℕ → Bool) (has has1 : ℕ → Told) (cell : Cell) (old new : Site D) (said named : Line) (result : Result Reply Fault) (answers0 answers1 : List (List ℕ)) → Shows told out has cell old → InRange said → is_built said ≡ true
    → said ≡ named → IfOk result (λ reply. Becomes told out1 has1 (Happens cell named) reply answers0 answers1 new) → IfOk result (λ reply. Leads told out1 has1 (Happens cell said) reply answers0 answers1 new)
leads_as told out out1 has has1 cell old new said named result answers0 answers1 shows range built is b =
    leads told out out1 has has1 cell old new said result answers0 answers1 shows range built (becomes_named told out1 has1 cell new said named result answers0 answers1 is b)

-- the servers of a volume that is on one
pub alone_servers : (servers : List ℕ) (server : ℕ) → is_alone servers ≡ true → server ≡ alone servers → server ∷ [] ≡ servers
alone_servers [] server is same = cc
alone_servers (one ∷ []) server is same = ap (λ s. s ∷ []) same
alone_servers (one ∷ two ∷ more) server is same = cc
