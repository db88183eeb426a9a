use Rattle.machine_laws.proofs.laws.what_is_of_its_kinds_has_the_form.Goals as goal

pub returns : goal.returns
returns c = λ request is. is.form
