use Rattle.std.proofs.Common.{◌≡◌, sym, ap, subst, ◌∙◌, Err}
use Rattle.coda_fid.specs.Path.{path_text, names_in, ArePathNames}
use Rattle.coda_fid.specs.declared.name.NameFault.TheVariants.{BadName}
use Rattle.coda_fid.proofs.Paths.{no_path, test_of_none, path_from_test, path_names_in, text_of_path, names_in-path_text}
use Rattle.coda_fid.proofs.path.Path.read.Goals as goal

pub invariant_of-result : goal.invariant_of-result
invariant_of-result c = subst ArePathNames (sym c.in-Ok.ensures.names) (path_names_in c.args.bytes.now c.in-Ok.ensures.path)

pub returns-in-Ok-clause-ok : goal.returns-in-Ok-clause-ok
returns-in-Ok-clause-ok c = ap path_text c.in-Ok.ensures.names ∙ text_of_path c.args.bytes.now c.in-Ok.ensures.path

pub returns-in-Ok-clause-alone : goal.returns-in-Ok-clause-alone
returns-in-Ok-clause-alone c = λ names good e. sym (names_in-path_text names good) ∙ (ap names_in e ∙ sym c.in-Ok.ensures.names)

pub returns-in-Ok-clause-bad : goal.returns-in-Ok-clause-bad
returns-in-Ok-clause-bad c = (λ e. let f : ⊥ = cc in absurd f, λ n. absurd (n (path_from_test c.args.bytes.now c.in-Ok.ensures.path)))

pub returns-in-Err-clause-bad : goal.returns-in-Err-clause-bad
returns-in-Err-clause-bad c = (
  λ e.
      let r : c.why_not.result ≡ BadName = cc in
      no_path c.args.bytes.now (c.why_not.ensures.0 r),
  λ n. ap Err (c.why_not.ensures.1 (test_of_none c.args.bytes.now n)),
)
