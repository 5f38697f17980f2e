use Rattle.std.proofs.Common.{◌≡◌, ◌≢◌, ◌∙◌, sym, ap, subst, Ok, Err, IfOk, IfErr}
use Rattle.std.specs.Prelude.{option_map}
use Rattle.std.specs.Option.{option_map_or}
use Rattle.serde_json.specs.View.{view}
use Rattle.json_forms.specs.ListReading.{list_found, list_read}
use Rattle.json_forms.specs.declared.list_fault.BadList.TheVariants as bad
use Rattle.json_forms.proofs.list_reader.read_list.Goals as goal

pub returns-in-Some-clause-found : goal.returns-in-Some-clause-found
unfolding list_read
returns-in-Some-clause-found c =
    subst (λ o. IfOk c.list_in.result (λ list. option_map_or list_found o (Err (bad.BadList 0)) ≡ Ok list))
    (sym (ap (option_map view) c.in-Some.is) ∙ c.in_ok-value.ensures) c.list_in.ensures.found

pub returns-in-Some-clause-fault : goal.returns-in-Some-clause-fault
unfolding list_read
returns-in-Some-clause-fault c =
    subst (λ o. IfErr c.list_in.result (λ e. e ≢ bad.NoMemory → option_map_or list_found o (Err (bad.BadList 0)) ≡ Err e))
    (sym (ap (option_map view) c.in-Some.is) ∙ c.in_ok-value.ensures) c.list_in.ensures.fault

pub returns-in-None-clause-fault : goal.returns-in-None-clause-fault
unfolding list_read
returns-in-None-clause-fault c =
    λ other. ap (λ o. option_map_or list_found o (Err (bad.BadList 0))) (sym c.in_ok-value.ensures ∙ ap (option_map view) c.in-None.is)
