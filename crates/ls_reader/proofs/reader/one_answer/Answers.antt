use Rattle.ls_reader.proofs.AnswerLemmas.{settled, forms_same, fault_same, forms_apart}
use Rattle.ls_reader.proofs.reader.one_answer.Goals as goal

pub returns : goal.returns
returns c = record { some = settled; forms = forms_same; fault = fault_same; apart = λ bytes forms fault. forms_apart bytes forms.0 fault.0 fault.1 forms.1 fault.2 }
