-- `unfolding computes` lets every definition of the machine compute.
use mathlib.Core.List.{flatten, zip_with}
use Rattle.rules.specs.Bytes.{choose, number, bytes}
use Rattle.rules.specs.State.{paper_limits, fresh, has_bit, with_bit, without_bit, kind_of, kind, subclass, merged, add_io, add_as, add, add_all, listing}
use Rattle.rules.specs.Outcome.{need◌else◌⨾◌, present◌else◌⨾◌, result}
use Rattle.rules.specs.Requests.{gets_all, records_in, kind_accepted, all_accepted, wants, all_want, enqueues, clears, sets_apf, registers, adapter_in, modifies, without, without_first, removes, clears_io, sets_mode, injected, injects, request}
use Rattle.rules.specs.Take.{or_else, first_allowed, handed, hands_out, takes}
use Rattle.rules.specs.MoveList.{by_rising_id, register_request, modify_request, enqueue_request, aism_all_request, apf_request, list_requests, payloads, written_table, move_list, writes, table_entries_in, formed, requests_in, onward, applies, plays}
use Rattle.rules.specs.Machine.{outcome, step, answers, after}

unfoldable pub computes : Unit {0}
unfolding choose number bytes paper_limits fresh has_bit with_bit without_bit kind_of kind subclass merged add_io add_as add add_all listing need◌else◌⨾◌ present◌else◌⨾◌ result gets_all records_in kind_accepted all_accepted wants all_want enqueues clears sets_apf registers adapter_in modifies without without_first removes clears_io sets_mode injected injects request or_else first_allowed handed hands_out takes by_rising_id register_request modify_request enqueue_request aism_all_request apf_request list_requests payloads written_table move_list writes table_entries_in formed requests_in onward applies plays outcome step answers after flatten zip_with
computes = tt
