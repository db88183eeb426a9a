-- What the faults print.
use Rattle.std.specs.Prelude.{ℕ, List, codes}
use Rattle.http_target.specs.declared.fault.BindFault.{BindFault}
use Rattle.http_target.specs.declared.fault.BindFault.TheVariants.{Method, Target, Header, Missing}
use Rattle.http_target.specs.declared.fault.BindFault.TheVariants.{Query, Body, OutOfMemory}

-- The words that tell why an HTTP request binds to no oneM2M request (TS-0009, 6.2 to 6.5). They
-- leave out the name of the header or key.
abbrev pub bind_fault_text : BindFault → List ℕ
bind_fault_text Method = codes "the method is not served"
bind_fault_text Target = codes "the target is not served"
bind_fault_text (Header name) = codes "a header is malformed"
bind_fault_text (Missing name) = codes "a part is missing"
bind_fault_text (Query key) = codes "the query is malformed"
bind_fault_text (Body fault) = codes "the body is malformed"
bind_fault_text OutOfMemory = codes "no memory for the request"
