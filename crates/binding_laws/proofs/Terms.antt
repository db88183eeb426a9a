-- The definitions of the crates below that several proofs of this crate use.
pub use Rattle.filter_criteria.specs.Bounds.{IsMoment}
pub use Rattle.filter_criteria.specs.Conditions.{FilterField, OfEachCondition, ValueOf, asked_of, filter_field, name_of_condition, no_conditions, sort_of_condition, usage_number, usage_numbered}
pub use Rattle.filter_criteria.specs.Laws.{IsFilterOfKinds, IsValueOfKind, are_labels, are_type_numbers}
pub use Rattle.filter_criteria.specs.Values.{where_it}
pub use Rattle.filter_criteria.specs.declared.condition.Condition.{Condition}
pub use Rattle.filter_criteria.specs.declared.condition.Condition.TheVariants.{CreatedAfter, CreatedBefore, ExpireAfter, ExpireBefore, Limit, ModifiedSince, OneLabel, OneType, SizeAbove, SizeBelow, StateTagBigger, StateTagSmaller, UnmodifiedSince, Usage}
pub use Rattle.filter_criteria.specs.declared.condition.Sort.{Sort}
pub use Rattle.filter_criteria.specs.declared.condition.Sort.TheVariants.{Count, Labels, Moment, Types, Use}
pub use Rattle.filter_criteria.specs.declared.filter.FilterParts.{FilterParts}
pub use Rattle.filter_criteria.specs.declared.filter.FilterUsage.TheVariants.{Conditional, Discovery}
pub use Rattle.form_urlencoded.specs.Form.{append_pair, byte_serialize, decode, extend_pairs, is_nonempty, raw_pairs, separator, serialize_pair}
pub use Rattle.http_binding.specs.Binding.{binding, caller_of, content_of, created_type, header_values, kept_result, method_of, object_only, request_of, unless_empty, value_in}
pub use Rattle.http_binding.specs.Headers.{expiry_field, id_field, is_some_text, length_field, origin_field, type_field}
pub use Rattle.http_binding.specs.MediaTypes.{admits_type, before_spaces, between_spaces, equals_sign, front_of, is_media_type, is_short_number, is_space, is_type_digits, json_type, next_said, parameter_said, parameters_of, piece_said, semicolon, type_digits_said, type_number, type_parameter, type_said}
pub use Rattle.http_binding.specs.Replying.{body_of, close_lines, content_lines, content_type, id_lines}
pub use Rattle.http_client_binding.specs.Asking.{expiry_lines, host_field, origin_lines, request_frame, target_text}
pub use Rattle.http_client_binding.specs.QueryWriting.{condition_pairs, condition_texts, filter_pairs, pairs_at, query_pairs, query_part, query_text, texts_of_sort, whole_texts, written_order}
pub use Rattle.http_client_binding.specs.TargetWriting.{has_own_path, host_of, path_of_address}
pub use Rattle.http_frames.specs.Lines.{Line, values_named}
pub use Rattle.http_frames.specs.Text.{IsTarget, head_text}
pub use Rattle.http_frames.specs.declared.frame.Start.TheVariants.{Ask}
pub use Rattle.http_target.specs.Chain.{and_then}
pub use Rattle.http_target.specs.Queries.{Pair, decoded_pair, decoded_pairs, form_spelled, is_type_text, labels_spelled, pair_said, placed, result_spelled, said_more, spells_label, type_spelled, types_spelled, usage_spelled, whole_spelled, with_condition, with_filter, with_form, with_result, with_text, words_of}
pub use Rattle.http_target.specs.Said.{query_said, said_by, said_by_target, target_of}
pub use Rattle.http_target.specs.declared.query.Query.{Query}
pub use Rattle.http_uri.specs.ByteClasses.{index_of, is_path_byte, is_query_byte, percent_sign, slash, split_once_back, split_once_front}
pub use Rattle.m2m_names.specs.Ids.{number_spelled}
pub use Rattle.m2m_names.specs.Name.{is_decimal, is_filled, is_numeral, is_originator, is_unreserved}
pub use Rattle.m2m_names.specs.Stamps.{timestamp}
pub use Rattle.m2m_names.specs.Types.{is_type_number}
pub use Rattle.m2m_names.specs.declared.operations.Op.{Op}
pub use Rattle.m2m_names.specs.declared.operations.Op.TheVariants.{Create, Delete as Removal, Notify, Retrieve, Update}
pub use Rattle.m2m_value.specs.Data.{Data, boolean, depth, list, null, number, object, text}
pub use Rattle.m2m_value.specs.Shapes.{is_label_text}
pub use Rattle.primitive_json.specs.Kinds.{address_forms, expiry_spelled, is_among, result_contents, target_limit}
pub use Rattle.primitive_json.specs.Writing.{expiry_text, only_where}
pub use Rattle.primitive_json.specs.declared.request.When.{When}
