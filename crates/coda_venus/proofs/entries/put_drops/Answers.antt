use Rattle.std.proofs.Common.{◌++◌, take, sym, ap, subst, ◌∙◌, add-one}
use Rattle.std.specs.Prelude.{slice_index_or}
use Rattle.std.specs.List.{AllByRecursion}
use Rattle.std.proofs.lemmas.List.{append_assoc}
use Rattle.coda_fid.specs.declared.fid.Fid.{Fid}
use Rattle.coda_record.specs.Spelling.{HasSpelling}
use Rattle.coda_record.specs.Parts.{u8 as a_u8}
use Rattle.coda_record.specs.Table as table
use Rattle.coda_venus.specs.History.{bytes_of_entries}
use Rattle.coda_venus.specs.Rounds.{dropping}
use Rattle.coda_venus.proofs.Dropping.{drops_more, dropped_bytes, spelled_more}
use Rattle.coda_venus.proofs.entries.put_drops.Goals as goal

abbrev none : Fid
none = record { volume = 0; vnode = 0; uniq = 0 }

pub loop-fid-preserved : goal.loop-fid-preserved
loop-fid-preserved c =
    let i = c.loop-fid.fid-index in
    let gone = c.args.gone.now in
    let old = c.args.out.now.items in
    let f = slice_index_or gone i none in
    let was = c.loop-fid.invariant in
    let front = bytes_of_entries (dropping (take i gone)) in
    record {
      bytes = c.in_ok-put_fid.ensures ∙ ap (λ l. l ++ (table.fid.piece f).bytes) (c.in_ok-put_u8.ensures ∙ ap (λ l. l ++ (a_u8.piece 6).bytes) was.bytes)
          ∙ append_assoc (old ++ front) (a_u8.piece 6).bytes (table.fid.piece f).bytes ∙ append_assoc old front ((a_u8.piece 6).bytes ++ (table.fid.piece f).bytes)
          ∙ ap (λ l. old ++ l) (ap (λ l. front ++ l) (sym (dropped_bytes f)) ∙ sym (ap (λ n. bytes_of_entries (dropping (take n gone))) (add-one i) ∙ drops_more gone i none c.loop-fid-test.true));
      spelled = subst (λ n. AllByRecursion (HasSpelling table.fid) (take n gone)) (sym (add-one i)) (spelled_more gone i none c.loop-fid-test.true was.spelled c.fid_spelled.ensures);
    }
