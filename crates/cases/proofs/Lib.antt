mod LinksSent
